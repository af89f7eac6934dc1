use Rattle.std.proofs.Common.{◌+◌, ◌*◌, max}
use Rattle.node_trees.specs.declared.branch.Branch.{size-Branch}
use Rattle.candidate_count.proofs.trees.+in_branch.Given as goal

abbrev pub decreases-in_branch : goal.decreases-in_branch
decreases-in_branch l = 2 * size-Branch l.branch.now

abbrev pub decreases-over_part : goal.decreases-over_part
decreases-over_part l = 2 * size-Branch l.part.now + 1

abbrev pub decreases-between_sides : goal.decreases-between_sides
decreases-between_sides l = 2 * max (size-Branch l.left.now) (size-Branch l.right.now) + 1
