use Rattle.std.proofs.Common.{IsTrue, rules}
use Rattle.board_core.proofs.Quiet.{quiet_by_reason}
use Rattle.board_core.proofs.board.Board.tell_stop.Goals as goal

pub returns-then-none_pending-clause-none : goal.returns-then-none_pending-clause-none
returns-then-none_pending-clause-none c =
    let none : IsTrue c.none_pending.result = search rules in
    λ e. quiet_by_reason c.args.self.now c.requires.stopped (c.none_pending.ensures.0 none)
