use Rattle.std.proofs.Common.{subst}
use Rattle.board_core.specs.Boards.{IsBoard}
use Rattle.board_core.proofs.board.Board.windows.Goals as goal

pub returns-clause-rows : goal.returns-clause-rows
returns-clause-rows c =
    let is = subst IsBoard c.self.view_is c.self.invariant.0.0 in is.0.rows_are
