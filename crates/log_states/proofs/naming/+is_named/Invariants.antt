use Rattle.std.specs.Prelude.{length}
use Rattle.log_states.proofs.naming.+is_named.Given as goal

abbrev pub decreases-is_named : goal.decreases-is_named
decreases-is_named l = length l.names.now
