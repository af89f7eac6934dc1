use Rattle.std.proofs.Common.{length}
use Rattle.board_offers.proofs.numbering.+place.Given as goal

abbrev pub decreases-place : goal.decreases-place
decreases-place l = length l.numbers.now
