use Rattle.std.proofs.Common.{◌+◌, ◌*◌, length}
use Rattle.symbolic_trees.proofs.ways.+each_count.Given as goal

abbrev pub decreases-each_count : goal.decreases-each_count
decreases-each_count l = 2 * length l.choices.now

abbrev pub decreases-first_count : goal.decreases-first_count
decreases-first_count l = 2 * length l.choices.now + 1
