use Rattle.std.specs.Prelude.{length}
use Rattle.log_states.proofs.naming.+names_only.Given as goal

abbrev pub decreases-names_only : goal.decreases-names_only
decreases-names_only l = length l.names.now
