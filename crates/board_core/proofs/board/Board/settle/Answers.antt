use Rattle.std.proofs.Common.{◌≡◌, false, rules}
use Rattle.board_core.proofs.board.Board.settle.Goals as goal

pub returns-else-branch-clause-none : goal.returns-else-branch-clause-none
returns-else-branch-clause-none c =
    let told : c.in_ok-settle_once.field-0 ≡ false = search rules in
    c.in_ok-settle_once.ensures.none told
