use Rattle.std.proofs.Common.{length}
use Rattle.type_contents.proofs.schedule.+are_ready.Given as goal

abbrev pub decreases-are_ready : goal.decreases-are_ready
decreases-are_ready g l = length l.used.now
