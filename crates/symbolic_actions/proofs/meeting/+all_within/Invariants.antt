use Rattle.std.proofs.Common.{length}
use Rattle.symbolic_actions.proofs.meeting.+all_within.Given as goal

abbrev pub decreases-all_within : goal.decreases-all_within
decreases-all_within l = length l.fields.now
