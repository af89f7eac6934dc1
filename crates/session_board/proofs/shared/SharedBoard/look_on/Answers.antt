use Rattle.std.proofs.Common.{subst, sym}
use Rattle.session_board.specs.Shared.{SharedView}
use Rattle.session_board.specs.declared.turning.Turn.TheVariants.{Free}
use Rattle.session_board.specs.Turning.{ComesOfTurn, HasNothingToDo}
use Rattle.session_board.proofs.shared.SharedBoard.look_on.Goals as goal

pub returns-then-self-clause-step : goal.returns-then-self-clause-step
returns-then-self-clause-step c =
    subst (λ (z : SharedView). HasNothingToDo z.board z.board) c.self.view_is (c.self.invariant.idle c.if-self.true)

pub returns-in-Free-clause-step : goal.returns-in-Free-clause-step
returns-in-Free-clause-step c =
    let t = subst (ComesOfTurn c.args.self.now.board c.step.new.self.board) c.in-Free.is c.in_ok-job.ensures.turn in
    subst (λ (z : SharedView). ComesOfTurn c.args.self.now.board z.board (Free c.numbered.result.job)) (sym c.numbered.ensures.same)
    (subst (λ j. ComesOfTurn c.args.self.now.board c.step.new.self.board (Free j)) (sym c.numbered.ensures.job) t)
