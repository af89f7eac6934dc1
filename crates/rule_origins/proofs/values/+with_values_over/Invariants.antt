use Rattle.std.proofs.Common.{length}
use Rattle.rule_origins.proofs.values.+with_values_over.Given as goal

abbrev pub decreases-with_values_over : goal.decreases-with_values_over
decreases-with_values_over l = length l.values.now
