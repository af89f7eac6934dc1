use Rattle.std.proofs.Common.{length}
use Rattle.equal_proof.proofs.variables.+bound_row.Given as goal

abbrev pub decreases-bound_row : goal.decreases-bound_row
decreases-bound_row l = length l.variables.now
