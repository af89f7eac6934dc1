use Rattle.std.proofs.Common.{take}
use Rattle.equation_overlaps.specs.Library.{IsRuleIfHeaded}
use Rattle.spec_core.specs.Lists.{Each}
use Rattle.spec_core.specs.Theories.{equation_of}
use Rattle.equation_overlaps.proofs.negation.heads_rules_alone.Given as goal

abbrev pub invariant-loop-equation : goal.invariant-loop-equation
invariant-loop-equation l = Each (λ e. IsRuleIfHeaded l.op.0 l.yes.0 l.no.0 (equation_of e)) (take l.equation-index l.equation-items)
