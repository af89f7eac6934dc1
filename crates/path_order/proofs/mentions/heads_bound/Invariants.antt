use Rattle.std.proofs.Common.{take}
use Rattle.path_order.specs.Mentioning.{HeadIsBelow}
use Rattle.spec_core.specs.Lists.{Each}
use Rattle.spec_core.specs.Theories.{equation_of}
use Rattle.path_order.proofs.mentions.heads_bound.Given as goal

abbrev pub invariant-loop-equation : goal.invariant-loop-equation
invariant-loop-equation l = Each (λ e. HeadIsBelow l.bound (equation_of e)) (take l.equation-index l.equation-items)
