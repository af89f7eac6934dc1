use Rattle.std.proofs.Common.{length}
use Rattle.type_copies.proofs.actuals.+sort_place.Given as goal

abbrev pub decreases-sort_place : goal.decreases-sort_place
decreases-sort_place l = length l.pairs.now
