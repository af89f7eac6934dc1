use Rattle.std.proofs.Common.{length}
use Rattle.symbolic_trees.proofs.ways.+any_marked.Given as goal

abbrev pub decreases-any_marked : goal.decreases-any_marked
decreases-any_marked l = length l.columns.now
