use Rattle.std.specs.Prelude.{length}
use Rattle.log_states.proofs.meeting.+fields_meet.Given as goal

abbrev pub decreases-fields_meet : goal.decreases-fields_meet
decreases-fields_meet l = length l.values.now
