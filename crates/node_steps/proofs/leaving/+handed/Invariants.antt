use Rattle.std.proofs.Common.{length}
use Rattle.node_steps.proofs.leaving.+handed.Given as goal

abbrev pub decreases-handed : goal.decreases-handed
decreases-handed l = length l.vars.now
