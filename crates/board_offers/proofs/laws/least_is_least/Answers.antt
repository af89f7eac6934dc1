use Rattle.board_offers.proofs.Order.{least_is_least}
use Rattle.board_offers.proofs.laws.least_is_least.Goals as goal

pub returns : goal.returns
returns c = least_is_least
