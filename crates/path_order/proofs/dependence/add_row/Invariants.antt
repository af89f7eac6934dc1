use Rattle.std.proofs.Common.{take}
use Rattle.path_order.specs.Mentioning.{IsGrown}
use Rattle.path_order.proofs.dependence.add_row.Given as goal

abbrev pub invariant-loop-head : goal.invariant-loop-head
invariant-loop-head l = IsGrown (take l.head-index l.row) l.initial.found.keys l.found.keys
