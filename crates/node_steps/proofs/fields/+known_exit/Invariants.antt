use Rattle.std.proofs.Common.{length}
use Rattle.node_steps.proofs.fields.+known_exit.Given as goal

abbrev pub decreases-known_exit : goal.decreases-known_exit
decreases-known_exit l = length l.fields.now
