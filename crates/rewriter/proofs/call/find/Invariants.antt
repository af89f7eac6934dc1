use Rattle.std.proofs.Common.{ℕ, ◌≡◌, ◌<◌, ◌≤◌, ◌-◌, length}
use Rattle.spec_core.specs.Terms.{TermTree, instance, apply}
use Rattle.spec_core.specs.Theories.{Heads, theory_of}
use Rattle.rewriter.specs.Steps.{equation_at}
use Rattle.rewriter.specs.Calls.{arguments_of}
use Rattle.rewriter.proofs.call.find.Given as goal

abbrev pub invariant-loop-place : goal.invariant-loop-place
invariant-loop-place l = record {
  room : length l.bound ≡ length l.fn.bound;
  onward : l.from ≤ l.place;
  headed : l.place < length (theory_of l.algebra).equations → Heads l.op.0 (equation_at (theory_of l.algebra) l.place);
  skipped : (j : ℕ) → l.from ≤ j → j < l.place → j < length (theory_of l.algebra).equations → (s : ℕ → TermTree) →
      instance s (equation_at (theory_of l.algebra) j).left ≡ apply l.op.0 (arguments_of l.nodes l.count l.values) → ⊥;
}

abbrev pub decreases-loop-place : goal.decreases-loop-place
decreases-loop-place l = length (theory_of l.algebra).equations - l.place
