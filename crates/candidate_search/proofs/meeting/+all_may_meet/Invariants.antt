use Rattle.std.proofs.Common.{length}
use Rattle.candidate_search.proofs.meeting.+all_may_meet.Given as goal

abbrev pub decreases-all_may_meet : goal.decreases-all_may_meet
decreases-all_may_meet l = length l.columns.now
