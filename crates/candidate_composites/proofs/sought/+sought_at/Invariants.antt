use Rattle.std.proofs.Common.{length}
use Rattle.candidate_composites.proofs.sought.+sought_at.Given as goal

abbrev pub decreases-sought_at : goal.decreases-sought_at
decreases-sought_at l = length l.others.now
