use Rattle.std.proofs.Common.{◌≡◌, ◌∙◌, false, rules, sym}
use Rattle.std.proofs.lemmas.Result.{IfOk-weaker}
use Rattle.board_work.proofs.Going.{one_session}
use Rattle.board_work.proofs.Handing.{handed_twice}
use Rattle.board_work.proofs.Quiet.{come_later}
use Rattle.board_work.proofs.Worked.{worked_later}
use Rattle.board_work.proofs.settling.settle_or_work.Goals as goal

pub returns-clause-entry : goal.returns-clause-entry
returns-clause-entry c =
    IfOk-weaker c.settle_else_work.result _ _
    (λ progress h e. come_later c.args.board.now c.work_if_expected.new.board c.settle_else_work.new.board c.work_if_expected.ensures.handed (h e))
    c.settle_else_work.ensures.entry

pub returns-clause-handed : goal.returns-clause-handed
returns-clause-handed c =
    IfOk-weaker c.settle_else_work.result _ _
    (λ progress h e. handed_twice c.args.board.now c.work_if_expected.new.board c.settle_else_work.new.board c.work_if_expected.ensures.handed (h e))
    c.settle_else_work.ensures.handed

pub returns-clause-work : goal.returns-clause-work
returns-clause-work c =
    let none : c.in_ok-work_if_expected.field-0 ≡ false = search rules in
    let like = c.in_ok-work_if_expected.ensures.none none in
    IfOk-weaker c.settle_else_work.result _ _
    (λ progress h e.
    worked_later c.args.board.now c.work_if_expected.new.board c.settle_else_work.new.board like.0 c.work_if_expected.ensures.handed
    (λ runs. sym like.1 ∙ runs) (h e))
    c.settle_else_work.ensures.work

pub returns-clause-session : goal.returns-clause-session
returns-clause-session c =
    one_session c.args.board.now c.work_if_expected.new.board c.settle_else_work.new.board c.work_if_expected.ensures.handed.session
    c.settle_else_work.ensures.session
