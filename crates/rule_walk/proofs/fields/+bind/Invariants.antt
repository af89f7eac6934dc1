use Rattle.std.proofs.Common.{length}
use Rattle.rule_walk.proofs.fields.+bind.Given as goal

abbrev pub decreases-bind : goal.decreases-bind
decreases-bind l = length l.bindings.now
