use Rattle.std.proofs.Common.{take}
use Rattle.equation_overlaps.specs.Library.{IsRule}
use Rattle.spec_core.specs.Lists.{Each}
use Rattle.spec_core.specs.Theories.{equation_of}
use Rattle.equation_overlaps.proofs.negation.has_rule.Given as goal

abbrev pub invariant-loop-equation : goal.invariant-loop-equation
invariant-loop-equation l = Each (λ e. IsRule l.op.0 l.given.0 l.value.0 (equation_of e) → ⊥) (take l.equation-index l.equation-items)
