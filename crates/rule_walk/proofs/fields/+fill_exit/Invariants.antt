use Rattle.std.proofs.Common.{length}
use Rattle.rule_walk.proofs.fields.+fill_exit.Given as goal

abbrev pub decreases-fill_exit : goal.decreases-fill_exit
decreases-fill_exit l = length l.fields.now
