use Rattle.std.proofs.Common.{◌+◌, ◌*◌, max}
use Rattle.node_trees.specs.declared.branch.Branch.{size-Branch}
use Rattle.candidate_composites.proofs.known.+put_kept.Given as goal

abbrev pub decreases-put_kept : goal.decreases-put_kept
decreases-put_kept l = size-Branch l.branch.now * 2

abbrev pub decreases-put_parallel : goal.decreases-put_parallel
decreases-put_parallel l = max (size-Branch l.left.now) (size-Branch l.right.now) * 2 + 1
