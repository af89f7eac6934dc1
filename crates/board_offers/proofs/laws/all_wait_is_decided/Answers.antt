use Rattle.board_offers.proofs.AllWait.{all_wait_is_decided}
use Rattle.board_offers.proofs.laws.all_wait_is_decided.Goals as goal

pub returns : goal.returns
returns c = all_wait_is_decided
