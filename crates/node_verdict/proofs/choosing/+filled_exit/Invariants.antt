use Rattle.std.proofs.Common.{length}
use Rattle.node_verdict.proofs.choosing.+filled_exit.Given as goal

abbrev pub decreases-filled_exit : goal.decreases-filled_exit
decreases-filled_exit l = length l.fields.now
