use Rattle.std.specs.Prelude.{length}
use Rattle.log_states.proofs.pending.+takes.Given as goal

abbrev pub decreases-takes : goal.decreases-takes
decreases-takes l = length l.all.now
