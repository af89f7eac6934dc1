use Rattle.std.proofs.Common.{◌≡◌, take}
use Rattle.node_values.proofs.scope.copy_scope.Given as goal

abbrev pub invariant-loop-pair : goal.invariant-loop-pair
invariant-loop-pair l = l.all.items ≡ take l.pair-index l.scope
