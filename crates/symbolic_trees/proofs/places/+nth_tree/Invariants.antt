use Rattle.std.proofs.Common.{◌+◌, ◌*◌, max}
use Rattle.symbolic_plans.specs.declared.scheme.Scheme.{size-Scheme}
use Rattle.symbolic_trees.proofs.places.+nth_tree.Given as goal

abbrev pub decreases-nth_tree : goal.decreases-nth_tree
decreases-nth_tree l = 4 * size-Scheme l.scheme.now

abbrev pub decreases-nth_under : goal.decreases-nth_under
decreases-nth_under l = 4 * size-Scheme l.part.now + 1

abbrev pub decreases-nth_both : goal.decreases-nth_both
decreases-nth_both l = 4 * max (size-Scheme l.left.now) (size-Scheme l.right.now) + 1

abbrev pub decreases-nth_own : goal.decreases-nth_own
decreases-nth_own l = 4 * size-Scheme l.part.now + 2

abbrev pub decreases-nth_at_once : goal.decreases-nth_at_once
decreases-nth_at_once l = 4 * size-Scheme l.part.now + 1

abbrev pub decreases-nth_hidden : goal.decreases-nth_hidden
decreases-nth_hidden l = 4 * size-Scheme l.part.now + 3

abbrev pub decreases-nth_handed_on : goal.decreases-nth_handed_on
decreases-nth_handed_on l = 4 * size-Scheme l.part.now + 3
