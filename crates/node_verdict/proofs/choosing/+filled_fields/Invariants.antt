use Rattle.std.proofs.Common.{length}
use Rattle.node_verdict.proofs.choosing.+filled_fields.Given as goal

abbrev pub decreases-filled_fields : goal.decreases-filled_fields
decreases-filled_fields l = length l.fields.now
