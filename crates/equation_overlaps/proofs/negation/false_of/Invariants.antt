use Rattle.std.proofs.Common.{ℕ, ◌<◌}
use Rattle.spec_core.specs.Orthogonality.{IsNegation}
use Rattle.spec_core.specs.Theories.{theory_of}
use Rattle.equation_overlaps.proofs.negation.false_of.Given as goal

abbrev pub invariant-loop-i : goal.invariant-loop-i
invariant-loop-i l = (n : ℕ) → n < l.i → IsNegation (theory_of l.algebra) l.op.0 l.yes.0 n → ⊥
