use Rattle.std.proofs.Common.{length}
use Rattle.type_contents.proofs.schedule.+are_all_found.Given as goal

abbrev pub decreases-are_all_found : goal.decreases-are_all_found
decreases-are_all_found g l = length l.found.now
