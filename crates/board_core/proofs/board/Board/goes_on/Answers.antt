use Rattle.std.proofs.Common.{IsTrue, rules}
use Rattle.board_core.specs.Views.{state}
use Rattle.board_core.proofs.Quiet.{looks_by}
use Rattle.board_core.proofs.board.Board.goes_on.Goals as goal

pub returns-clause-looks : goal.returns-clause-looks
returns-clause-looks c = λ on.
    let goes : IsTrue c.goes_by_rules.result = search rules in
    looks_by (state c.args.self.now) c.awaits_clients.result (c.goes_by_rules.ensures.goes goes) c.awaits_clients.ensures on
