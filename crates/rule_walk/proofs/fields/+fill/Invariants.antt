use Rattle.std.proofs.Common.{length}
use Rattle.rule_walk.proofs.fields.+fill.Given as goal

abbrev pub decreases-fill : goal.decreases-fill
decreases-fill l = length l.fields.now
