use Rattle.board_laws.proofs.Settling.{nothing_needed_is_decided}
use Rattle.board_laws.proofs.needed.nothing_needed_is_decided.Goals as goal

pub returns : goal.returns
returns c = nothing_needed_is_decided
