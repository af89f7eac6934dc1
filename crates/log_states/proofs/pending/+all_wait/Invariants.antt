use Rattle.std.specs.Prelude.{length}
use Rattle.log_states.proofs.pending.+all_wait.Given as goal

abbrev pub decreases-all_wait : goal.decreases-all_wait
decreases-all_wait l = length l.clients.now
