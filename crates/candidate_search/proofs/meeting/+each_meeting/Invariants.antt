use Rattle.std.proofs.Common.{◌+◌, ◌*◌, length}
use Rattle.candidate_search.proofs.meeting.+each_meeting.Given as goal

abbrev pub decreases-each_meeting : goal.decreases-each_meeting
decreases-each_meeting l = 2 * length l.columns.now

abbrev pub decreases-first_meeting : goal.decreases-first_meeting
decreases-first_meeting l = 2 * length l.columns.now + 1
