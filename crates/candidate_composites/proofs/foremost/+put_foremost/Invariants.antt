use Rattle.std.proofs.Common.{◌+◌, ◌*◌, max}
use Rattle.node_trees.specs.declared.branch.Branch.{size-Branch}
use Rattle.candidate_composites.proofs.foremost.+put_foremost.Given as goal

abbrev pub decreases-put_foremost : goal.decreases-put_foremost
decreases-put_foremost l = size-Branch l.branch.now * 4

abbrev pub decreases-of_two : goal.decreases-of_two
decreases-of_two l = max (size-Branch l.left.now) (size-Branch l.right.now) * 4 + 1

abbrev pub decreases-of_alone : goal.decreases-of_alone
decreases-of_alone l = max (size-Branch l.left.now) (size-Branch l.right.now) * 4 + 2

abbrev pub decreases-of_left : goal.decreases-of_left
decreases-of_left l = size-Branch l.left.now * 4 + 1

abbrev pub decreases-of_parallel : goal.decreases-of_parallel
decreases-of_parallel l = max (size-Branch l.left.now) (size-Branch l.right.now) * 4 + 3
