use Rattle.std.proofs.Common.{length}
use Rattle.node_trees.proofs.left.+values_in.Given as goal

abbrev pub decreases-values_in : goal.decreases-values_in
decreases-values_in l = length l.values.now
