use Rattle.std.proofs.Common.{length}
use Rattle.rule_substitution.proofs.scope.Scope.+without_accepted.Given as goal

abbrev pub decreases-without_accepted : goal.decreases-without_accepted
decreases-without_accepted l = length l.fields.now
