use Rattle.board_offers.proofs.Sound.{waiting_is_sound}
use Rattle.board_offers.proofs.laws.waiting_is_sound.Goals as goal

pub returns : goal.returns
returns c = waiting_is_sound
