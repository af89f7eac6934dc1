use Rattle.std.proofs.Common.{◌≡◌, ◌∙◌, Some, ap, subst}
use Rattle.std.proofs.lemmas.Result.{on_ok_weaker}
use Rattle.rule_model.specs.Answers.{answer_of}
use Rattle.board_laws.specs.Stopping.{answer_by}
use Rattle.board_core.specs.Views.{BoardView}
use Rattle.board_core.proofs.Entries.{told_reason}
use Rattle.board_core.proofs.board.Board.tell_reason.Goals as goal

pub returns-clause-settled : goal.returns-clause-settled
returns-clause-settled c =
    let v = c.args.self.now in
    let reason = c.in-Some.reason in
    on_ok_weaker c.answer_least.result
    (told_reason v c.answer_least.new.self reason (subst (λ (z : BoardView). z.stop ≡ Some reason) c.self.view_is c.in-Some.is)
    c.answer_least.ensures.stop (answer_of c.in_ok-reply-in-Some.reply)
    (c.in_ok-reply-in-Some.ensures ∙ ap (λ n. answer_by n reason) c.actions-at.ensures))
    c.answer_least.ensures.told
