use Rattle.std.proofs.Common.{length}
use Rattle.node_steps.proofs.fields.+known_fields.Given as goal

abbrev pub decreases-known_fields : goal.decreases-known_fields
decreases-known_fields l = length l.fields.now
