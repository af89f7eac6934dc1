use Rattle.std.proofs.Common.{◌+◌, ◌*◌, max}
use Rattle.node_trees.specs.declared.rest.Rest.{size-Rest}
use Rattle.node_trees.proofs.left.+unfolded_rest.Given as goal

abbrev pub decreases-unfolded_rest : goal.decreases-unfolded_rest
decreases-unfolded_rest l = size-Rest l.rest.now * 2

abbrev pub decreases-rest_over : goal.decreases-rest_over
decreases-rest_over l = size-Rest l.rest.now * 2 + 1

abbrev pub decreases-rest_between : goal.decreases-rest_between
decreases-rest_between l = max (size-Rest l.left.now) (size-Rest l.right.now) * 2 + 1

abbrev pub decreases-rest_relabelled : goal.decreases-rest_relabelled
decreases-rest_relabelled l = size-Rest l.rest.now * 2 + 1
