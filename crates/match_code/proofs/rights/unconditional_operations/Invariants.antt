use Rattle.std.proofs.Common.{ℕ, ◌≡◌, ◌<◌, [], length}
use Rattle.spec_core.specs.Theories.{Heads, theory_of}
use Rattle.rewriter.specs.Steps.{equation_at}
use Rattle.match_code.specs.Rights.{IsNoted}
use Rattle.match_code.proofs.rights.unconditional_operations.Given as goal

abbrev pub invariant-loop-place : goal.invariant-loop-place
invariant-loop-place l = record {
  seen : (f j : ℕ) → j < l.place → j < length (theory_of l.algebra).equations → IsNoted l.noted.items f →
      Heads f (equation_at (theory_of l.algebra) j) → (equation_at (theory_of l.algebra) j).premises ≡ [];
}
