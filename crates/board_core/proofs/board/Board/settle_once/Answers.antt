use Rattle.std.proofs.Common.{◌≡◌, IsTrue, None, rules, subst}
use Rattle.board_core.specs.Boards.{IsBoard}
use Rattle.board_core.proofs.Quiet.{quiet_by_clients}
use Rattle.board_core.proofs.board.Board.settle_once.Goals as goal

pub returns-then-awaits_clients-clause-none : goal.returns-then-awaits_clients-clause-none
returns-then-awaits_clients-clause-none c =
    let v = c.args.self.now in
    let running : v.stop ≡ None = search rules in
    let goes : IsTrue c.goes_by_rules.result = search rules in
    let awaits : IsTrue c.awaits_clients.result = search rules in
    λ e. quiet_by_clients v running (c.goes_by_rules.ensures.goes goes) (subst IsBoard c.self.view_is c.self.invariant.0.0)
    (c.awaits_clients.ensures.0 awaits)
