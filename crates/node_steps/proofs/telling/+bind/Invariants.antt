use Rattle.std.proofs.Common.{length}
use Rattle.node_steps.proofs.telling.+bind.Given as goal

abbrev pub decreases-bind : goal.decreases-bind
decreases-bind l = length l.bindings.now
