use Rattle.std.proofs.Common.{take}
use Rattle.spec_core.specs.Lists.{Each}
use Rattle.spec_core.specs.Theories.{Heads, equation_of}
use Rattle.spec_core.proofs.constructors.heads_none.Given as goal

abbrev pub invariant-loop-equation : goal.invariant-loop-equation
invariant-loop-equation l = Each (λ e. Heads l.op.0 (equation_of e) → ⊥) (take l.equation-index l.equation-items)
