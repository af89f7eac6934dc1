use Rattle.std.proofs.Common.{length}
use Rattle.decision_order.proofs.settle.+beyond.Given as goal

abbrev pub decreases-beyond : goal.decreases-beyond
decreases-beyond g l = length l.those.now
