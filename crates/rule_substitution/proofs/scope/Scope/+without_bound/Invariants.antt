use Rattle.std.proofs.Common.{length}
use Rattle.rule_substitution.proofs.scope.Scope.+without_bound.Given as goal

abbrev pub decreases-without_bound : goal.decreases-without_bound
decreases-without_bound l = length l.bindings.now
