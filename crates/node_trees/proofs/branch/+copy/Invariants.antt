use Rattle.std.proofs.Common.{◌+◌, ◌*◌, max}
use Rattle.node_trees.specs.declared.branch.Branch.{size-Branch}
use Rattle.node_trees.proofs.branch.+copy.Given as goal

abbrev pub decreases-Branch::copy : goal.decreases-Branch::copy
decreases-Branch::copy l = size-Branch l.self.now * 2

abbrev pub decreases-copied_over : goal.decreases-copied_over
decreases-copied_over l = size-Branch l.part.now * 2 + 1

abbrev pub decreases-copied_between : goal.decreases-copied_between
decreases-copied_between l = max (size-Branch l.left.now) (size-Branch l.right.now) * 2 + 1
