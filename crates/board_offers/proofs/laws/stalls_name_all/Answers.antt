use Rattle.board_offers.proofs.Stalls.{stalls_name_all}
use Rattle.board_offers.proofs.laws.stalls_name_all.Goals as goal

pub returns : goal.returns
returns c = stalls_name_all
