use Rattle.std.proofs.Common.{length}
use Rattle.node_trees.proofs.rows.+are_filled.Given as goal

abbrev pub decreases-are_filled : goal.decreases-are_filled
decreases-are_filled l = length l.blanks.now
