use Rattle.std.proofs.Common.{length}
use Rattle.node_values.proofs.scope.+at.Given as goal

abbrev pub decreases-at : goal.decreases-at
decreases-at l = length l.scope.now
