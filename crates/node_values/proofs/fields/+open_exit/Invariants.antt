use Rattle.std.proofs.Common.{length}
use Rattle.node_values.proofs.fields.+open_exit.Given as goal

abbrev pub decreases-open_exit : goal.decreases-open_exit
decreases-open_exit l = length l.fields.now
