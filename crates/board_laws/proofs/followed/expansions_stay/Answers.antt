use Rattle.board_laws.proofs.Keeping.{expansions_stay}
use Rattle.board_laws.proofs.followed.expansions_stay.Goals as goal

pub returns : goal.returns
returns c = expansions_stay
