use Rattle.std.proofs.Common.{length}
use Rattle.node_values.proofs.fields.+open_fields.Given as goal

abbrev pub decreases-open_fields : goal.decreases-open_fields
decreases-open_fields l = length l.fields.now
