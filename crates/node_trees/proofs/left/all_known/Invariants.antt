use Rattle.std.proofs.Common.{◌≡◌, map, take}
use Rattle.node_trees.specs.Rests.{known_in}
use Rattle.node_trees.proofs.left.all_known.Given as goal

abbrev pub invariant-loop-known : goal.invariant-loop-known
invariant-loop-known l = l.values.items ≡ map (known_in l.chosen) (take l.known-index l.all)
