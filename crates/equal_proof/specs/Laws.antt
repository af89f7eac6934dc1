-- Laws of certificates.
use Rattle.std.specs.Prelude.{ℕ, ◌≡◌, List}
use Rattle.spec_core.specs.Equality.{Equal}
use Rattle.spec_core.specs.Executable.{IsExecutable}
use Rattle.spec_core.specs.Sorts.{FitsGround}
use Rattle.spec_core.specs.Terms.{TermTree}
use Rattle.spec_core.specs.Theories.{Theory}
use Rattle.equal_proof.specs.declared.proof.ProofStep.{ProofStep}
use Rattle.equal_proof.specs.Certificates.{Proves, FailsAt}

-- what a certificate proves is provably equal, and of the data
abbrev pub CertificatesAreSound : Type 0
CertificatesAreSound =
    (theory : Theory) →
    IsExecutable theory →
    (steps : List ProofStep) (t u : TermTree) →
    Proves theory steps t u →
    FitsGround theory t × FitsGround theory u × Equal theory t u

-- a certificate proves one equation, or fails at one step, and not both
pub record CertificatesHaveOneOutcome : Type 0 where
  pub equation : (theory : Theory) (steps : List ProofStep) (t u v w : TermTree) →
      Proves theory steps t u → Proves theory steps v w → (t ≡ v) × (u ≡ w)
  pub fault : (theory : Theory) (steps : List ProofStep) (m n : ℕ) → FailsAt theory steps m → FailsAt theory steps n → m ≡ n
  pub apart : (theory : Theory) (steps : List ProofStep) (n : ℕ) (t u : TermTree) →
      FailsAt theory steps n → Proves theory steps t u → ⊥
