use Rattle.std.proofs.Common.{length}
use Rattle.session_threads.proofs.threads.+all_joined.Given as goal

abbrev pub decreases-all_joined : goal.decreases-all_joined
decreases-all_joined g l = length l.started.items
