use Rattle.board_offers.proofs.Places.{numbers_are_of_offers}
use Rattle.board_offers.proofs.laws.numbers_are_of_offers.Goals as goal

pub returns : goal.returns
returns c = numbers_are_of_offers
