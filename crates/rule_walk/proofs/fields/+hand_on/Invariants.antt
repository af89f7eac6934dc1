use Rattle.std.proofs.Common.{length}
use Rattle.rule_walk.proofs.fields.+hand_on.Given as goal

abbrev pub decreases-hand_on : goal.decreases-hand_on
decreases-hand_on l = length l.vars.now
