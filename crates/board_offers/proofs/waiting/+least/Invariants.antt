use Rattle.std.proofs.Common.{length}
use Rattle.board_offers.proofs.waiting.+least.Given as goal

abbrev pub decreases-least : goal.decreases-least
decreases-least l = length l.all.now
