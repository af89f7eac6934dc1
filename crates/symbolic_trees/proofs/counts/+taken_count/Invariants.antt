use Rattle.std.proofs.Common.{◌+◌, ◌*◌, length}
use Rattle.symbolic_trees.proofs.counts.+taken_count.Given as goal

abbrev pub decreases-taken_count : goal.decreases-taken_count
decreases-taken_count l = 2 * length l.takes.now

abbrev pub decreases-count_with : goal.decreases-count_with
decreases-count_with l = 2 * length l.takes.now + 1
