use Rattle.std.proofs.Common.{◌+◌, ◌*◌, max}
use Rattle.symbolic_plans.specs.declared.scheme.Scheme.{size-Scheme}
use Rattle.symbolic_trees.proofs.counts.+tree_count.Given as goal

abbrev pub decreases-tree_count : goal.decreases-tree_count
decreases-tree_count l = 3 * size-Scheme l.scheme.now

abbrev pub decreases-own_count : goal.decreases-own_count
decreases-own_count l = 3 * size-Scheme l.part.now + 2

abbrev pub decreases-count_at_once : goal.decreases-count_at_once
decreases-count_at_once l = 3 * size-Scheme l.part.now + 1

abbrev pub decreases-both_count : goal.decreases-both_count
decreases-both_count l = 3 * max (size-Scheme l.left.now) (size-Scheme l.right.now) + 1
