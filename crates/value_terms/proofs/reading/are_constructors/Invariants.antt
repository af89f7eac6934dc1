use Rattle.std.proofs.Common.{take}
use Rattle.spec_core.specs.Constructors.{IsConstructor}
use Rattle.spec_core.specs.Lists.{Each}
use Rattle.spec_core.specs.Theories.{theory_of}
use Rattle.value_terms.proofs.reading.are_constructors.Given as goal

abbrev pub invariant-loop-op : goal.invariant-loop-op
invariant-loop-op l = Each (λ op. IsConstructor (theory_of l.algebra) op.0) (take l.op-index l.ops)
