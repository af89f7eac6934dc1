use Rattle.std.proofs.Common.{map, take}
use Rattle.spec_core.specs.Lists.{Each}
use Rattle.spec_core.specs.Numbers.{op_number}
use Rattle.spec_core.specs.Theories.{theory_of}
use Rattle.cover_groups.specs.Fullness.{TakesNothing}
use Rattle.cover_groups.proofs.constants.has_constants.Given as goal

abbrev pub invariant-loop-op : goal.invariant-loop-op
invariant-loop-op l = Each (TakesNothing (theory_of l.algebra)) (map op_number (take l.op-index l.constructors))
