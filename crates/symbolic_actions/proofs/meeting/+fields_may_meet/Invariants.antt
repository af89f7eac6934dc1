use Rattle.std.proofs.Common.{length}
use Rattle.symbolic_actions.proofs.meeting.+fields_may_meet.Given as goal

abbrev pub decreases-fields_may_meet : goal.decreases-fields_may_meet
decreases-fields_may_meet l = length l.fields.now
