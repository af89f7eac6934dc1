use Rattle.std.proofs.Common.{length}
use Rattle.static_check.proofs.bodies.+all_known.Given as goal

abbrev pub decreases-all_known : goal.decreases-all_known
decreases-all_known l = length l.sorts.now
