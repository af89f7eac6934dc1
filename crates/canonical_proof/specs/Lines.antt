-- Steps of certificates, without their places in memory.
use Rattle.std.specs.Prelude.{ℕ, List}
use Rattle.equal_proof.specs.declared.proof.ProofStep.{ProofStep}
use Rattle.equal_proof.specs.declared.proof.ProofStep.TheVariants.{Same, Turn, Chain, Inside, Use}

-- a step, with terms as the lists of their operations in preorder
pub data Line : Type 0 where
  same : List ℕ → Line
  turn : Line
  chain : Line
  inside : ℕ → Line
  uses : ℕ → List (List ℕ) → Line

abbrev pub line_of : ProofStep → Line
line_of (Same value) = same value
line_of Turn = turn
line_of Chain = chain
line_of (Inside f) = inside f.0
line_of (Use equation values) = uses equation values.items
