use Rattle.std.proofs.Common.{◌≡◌, map, take}
use Rattle.node_trees.specs.Rests.{way_of}
use Rattle.node_trees.proofs.expansion.copy_alternatives.Given as goal

abbrev pub invariant-loop-alternative : goal.invariant-loop-alternative
invariant-loop-alternative l = map way_of l.all.items ≡ map way_of (take l.alternative-index l.alternatives)
