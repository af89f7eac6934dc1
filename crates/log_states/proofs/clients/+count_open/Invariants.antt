use Rattle.std.specs.Prelude.{length}
use Rattle.log_states.proofs.clients.+count_open.Given as goal

abbrev pub decreases-count_open : goal.decreases-count_open
decreases-count_open l = length l.all.now
