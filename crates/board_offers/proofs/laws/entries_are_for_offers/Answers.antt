use Rattle.board_offers.proofs.Entries as lemmas
use Rattle.board_offers.proofs.laws.entries_are_for_offers.Goals as goal

pub returns : goal.returns
returns g c = lemmas.entries_are_for_offers _
