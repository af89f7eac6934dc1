use Rattle.std.proofs.Common.{length}
use Rattle.type_copies.proofs.actuals.+operation_place.Given as goal

abbrev pub decreases-operation_place : goal.decreases-operation_place
decreases-operation_place l = length l.pairs.now
