use Rattle.std.proofs.Common.{subst, sym}
use Rattle.session_board.specs.Shared.{SharedView}
use Rattle.session_board.specs.declared.turning.Turn.TheVariants.{Free}
use Rattle.session_board.specs.Turning.{ComesOfTurn, HasNothingToDo}
use Rattle.session_board.proofs.Sharing.{all_have_left, not_all_have_left}
use Rattle.session_board.proofs.shared.SharedBoard.work.Goals as goal

pub returns-in-Idle-clause-work : goal.returns-in-Idle-clause-work
returns-in-Idle-clause-work c =
    let t = subst (ComesOfTurn c.args.self.now.board c.step.new.self.board) c.in-Idle.is c.in_ok-job.ensures.turn in
    (t, not_all_have_left c.step.new.self c.step.ensures.driven t.1)

pub returns-in-Over-clause-work : goal.returns-in-Over-clause-work
returns-in-Over-clause-work c =
    let t = subst (ComesOfTurn c.args.self.now.board c.step.new.self.board) c.in-Over.is c.in_ok-job.ensures.turn in
    (t, all_have_left c.step.new.self c.step.ensures.driven t.1)

pub rest-requires : goal.rest-requires
rest-requires c =
    record { idle = subst (λ (z : SharedView). HasNothingToDo z.board z.board) c.self.view_is (c.self.invariant.idle c.if-self-2.true) }

pub returns-in-Free-clause-work : goal.returns-in-Free-clause-work
returns-in-Free-clause-work c =
    let t = subst (ComesOfTurn c.args.self.now.board c.step.new.self.board) c.in-Free.is c.in_ok-job.ensures.turn in
    subst (λ (z : SharedView). ComesOfTurn c.args.self.now.board z.board (Free c.numbered.result.job)) (sym c.numbered.ensures.same)
    (subst (λ j. ComesOfTurn c.args.self.now.board c.step.new.self.board (Free j)) (sym c.numbered.ensures.job) t)
