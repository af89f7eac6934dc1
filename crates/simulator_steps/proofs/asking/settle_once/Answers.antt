use Rattle.std.proofs.Common.{◌∙◌, sym}
use Rattle.simulator_steps.proofs.Waiting.{comes, handed}
use Rattle.simulator_steps.proofs.asking.settle_once.Goals as goal

pub returns-in-Entry-clause-entry : goal.returns-in-Entry-clause-entry
returns-in-Entry-clause-entry c =
    λ settled. comes c.args.board.now c.settle_or_work.new.board (c.in_ok-settle_or_work.ensures.entry c.in-Entry.is)

pub returns-in-Work-clause-job : goal.returns-in-Work-clause-job
returns-in-Work-clause-job c =
    λ settled. handed c.args.board.now c.settle_or_work.new.board
    (c.in_ok-settle_or_work.ensures.handed (λ e. let f = sym c.in-Work.is ∙ e in cc))

pub returns-in-Nothing-clause-job : goal.returns-in-Nothing-clause-job
returns-in-Nothing-clause-job c =
    λ settled. handed c.args.board.now c.settle_or_work.new.board
    (c.in_ok-settle_or_work.ensures.handed (λ e. let f = sym c.in-Nothing.is ∙ e in cc))
