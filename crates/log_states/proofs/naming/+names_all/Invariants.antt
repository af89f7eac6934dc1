use Rattle.std.specs.Prelude.{length}
use Rattle.log_states.proofs.naming.+names_all.Given as goal

abbrev pub decreases-names_all : goal.decreases-names_all
decreases-names_all l = length l.all.now
