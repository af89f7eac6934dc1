use Rattle.std.specs.Prelude.{length}
use Rattle.log_states.proofs.pending.+waits.Given as goal

abbrev pub decreases-waits : goal.decreases-waits
decreases-waits l = length l.all.now
