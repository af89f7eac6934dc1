use Rattle.std.proofs.Common.{length}
use Rattle.session_threads.proofs.threads.+step_all.Given as goal

abbrev pub decreases-step_all : goal.decreases-step_all
decreases-step_all g l = length l.started.now.items
