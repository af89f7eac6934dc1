use Rattle.board_laws.proofs.Pending.{nothing_next_nothing_pending}
use Rattle.board_laws.proofs.needed.nothing_next_nothing_pending.Goals as goal

pub returns : goal.returns
returns c = nothing_next_nothing_pending
