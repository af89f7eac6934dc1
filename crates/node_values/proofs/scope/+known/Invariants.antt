use Rattle.std.proofs.Common.{length}
use Rattle.node_values.proofs.scope.+known.Given as goal

abbrev pub decreases-known : goal.decreases-known
decreases-known l = length l.values.now
