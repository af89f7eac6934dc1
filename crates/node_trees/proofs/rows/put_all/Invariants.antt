use Rattle.std.proofs.Common.{◌≡◌, ◌++◌, take}
use Rattle.node_trees.proofs.rows.put_all.Given as goal

abbrev pub invariant-loop-slot : goal.invariant-loop-slot
invariant-loop-slot l = l.slots.items ≡ l.initial.slots.items ++ take l.slot-index l.chosen
