use Rattle.std.specs.Prelude.{length}
use Rattle.log_states.proofs.naming.+is_ascending.Given as goal

abbrev pub decreases-is_ascending : goal.decreases-is_ascending
decreases-is_ascending l = length l.names.now
