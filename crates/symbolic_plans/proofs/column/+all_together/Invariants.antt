use Rattle.std.proofs.Common.{length}
use Rattle.symbolic_plans.proofs.column.+all_together.Given as goal

abbrev pub decreases-all_together : goal.decreases-all_together
decreases-all_together l = length l.left.now
