use Rattle.std.proofs.Common.{◌≡◌, take}
use Rattle.symbolic_trees.proofs.ways.copies.Given as goal

abbrev pub invariant-loop-slots : goal.invariant-loop-slots
invariant-loop-slots l = l.all.items ≡ take l.slots-index l.choices
