use Rattle.std.proofs.Common.{length}
use Rattle.rule_substitution.proofs.scope.Scope.+without_variables.Given as goal

abbrev pub decreases-without_variables : goal.decreases-without_variables
decreases-without_variables l = length l.vars.now
