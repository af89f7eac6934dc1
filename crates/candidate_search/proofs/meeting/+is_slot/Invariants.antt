use Rattle.std.proofs.Common.{length}
use Rattle.candidate_search.proofs.meeting.+is_slot.Given as goal

abbrev pub decreases-is_slot : goal.decreases-is_slot
decreases-is_slot l = length l.slots.now
