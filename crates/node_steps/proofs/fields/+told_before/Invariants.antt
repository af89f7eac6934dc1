use Rattle.std.proofs.Common.{length}
use Rattle.node_steps.proofs.fields.+told_before.Given as goal

abbrev pub decreases-told_before : goal.decreases-told_before
decreases-told_before l = length l.values.now
