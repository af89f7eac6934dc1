use Rattle.std.specs.Prelude.{length}
use Rattle.log_states.proofs.clients.+is_open.Given as goal

abbrev pub decreases-is_open : goal.decreases-is_open
decreases-is_open l = length l.all.now
