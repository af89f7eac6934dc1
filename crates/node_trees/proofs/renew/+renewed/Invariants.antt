use Rattle.std.proofs.Common.{◌+◌, ◌*◌, max}
use Rattle.node_trees.specs.declared.branch.Branch.{size-Branch}
use Rattle.node_trees.proofs.renew.+renewed.Given as goal

abbrev pub decreases-renewed : goal.decreases-renewed
decreases-renewed l = size-Branch l.branch.now * 2

abbrev pub decreases-renewed_over : goal.decreases-renewed_over
decreases-renewed_over l = size-Branch l.part.now * 2 + 1

abbrev pub decreases-renewed_between : goal.decreases-renewed_between
decreases-renewed_between l = max (size-Branch l.left.now) (size-Branch l.right.now) * 2 + 1
