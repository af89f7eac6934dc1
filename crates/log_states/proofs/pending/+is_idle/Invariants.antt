use Rattle.std.specs.Prelude.{length}
use Rattle.log_states.proofs.pending.+is_idle.Given as goal

abbrev pub decreases-is_idle : goal.decreases-is_idle
decreases-is_idle l = length l.all.now
