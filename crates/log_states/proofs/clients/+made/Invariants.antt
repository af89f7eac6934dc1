use Rattle.std.specs.Prelude.{length}
use Rattle.log_states.proofs.clients.+made.Given as goal

abbrev pub decreases-made : goal.decreases-made
decreases-made l = length l.all.now
