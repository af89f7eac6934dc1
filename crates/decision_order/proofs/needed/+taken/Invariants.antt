use Rattle.std.proofs.Common.{length}
use Rattle.decision_order.proofs.needed.+taken.Given as goal

abbrev pub decreases-taken : goal.decreases-taken
decreases-taken g l = length l.those.now
