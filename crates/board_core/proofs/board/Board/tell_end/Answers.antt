use Rattle.std.proofs.lemmas.Result.{on_ok_weaker}
use Rattle.board_core.proofs.Entries.{told_end}
use Rattle.board_core.proofs.board.Board.tell_end.Goals as goal

pub returns-clause-settled : goal.returns-clause-settled
returns-clause-settled c =
    on_ok_weaker c.answer_least.result
    (told_end c.args.self.now c.answer_least.new.self c.requires.stop c.answer_least.ensures.stop c.requires.ended c.actions-at.result
    c.actions-at.ensures)
    c.answer_least.ensures.told
