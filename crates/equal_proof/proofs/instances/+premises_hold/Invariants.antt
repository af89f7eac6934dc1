use Rattle.std.proofs.Common.{length}
use Rattle.equal_proof.proofs.instances.+premises_hold.Given as goal

abbrev pub decreases-premises_hold : goal.decreases-premises_hold
decreases-premises_hold l = length l.premises.now
