use Rattle.std.proofs.Common.{◌+◌, ◌*◌}
use Rattle.node_trees.proofs.unfold.+unfold.Given as goal

abbrev pub decreases-unfold : goal.decreases-unfold
decreases-unfold l = l.node * 2 + 1

abbrev pub decreases-unfold_between : goal.decreases-unfold_between
decreases-unfold_between l = l.number * 2

abbrev pub decreases-unfold_over : goal.decreases-unfold_over
decreases-unfold_over l = l.number * 2
