use Rattle.std.proofs.Common.{◌↔◌, IsTrue, subst}
use Rattle.rule_model.specs.Legal.{AllWait}
use Rattle.board_record.specs.Views as records
use Rattle.board_core.specs.Views.{BoardView, state}
use Rattle.board_core.proofs.board.Board.all_wait.Goals as goal

pub returns : goal.returns
returns c =
    subst (λ (z : BoardView). IsTrue c.all_wait.result ↔ AllWait (state z)) c.self.view_is
    (subst (λ s. IsTrue c.all_wait.result ↔ AllWait s) c.state.ensures (c.all_wait.ensures (records.state c.self.inside.record).behaviour))
