use Rattle.std.proofs.Common.{length}
use Rattle.node_trees.proofs.blanks.+taken.Given as goal

abbrev pub decreases-taken : goal.decreases-taken
decreases-taken l = length l.takes.now
