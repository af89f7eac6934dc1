use Rattle.std.proofs.Common.{length}
use Rattle.equal_proof.proofs.steps.+read_all.Given as goal

abbrev pub decreases-read_all : goal.decreases-read_all
decreases-read_all l = length l.variables.now
