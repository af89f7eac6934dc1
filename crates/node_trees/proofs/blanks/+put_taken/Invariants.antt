use Rattle.std.proofs.Common.{length}
use Rattle.node_trees.proofs.blanks.+put_taken.Given as goal

abbrev pub decreases-put_taken : goal.decreases-put_taken
decreases-put_taken l = length l.takes.now
