use Rattle.std.proofs.Common.{refl}
use Rattle.spec_core.specs.Lists.{IsOneOf}
use Rattle.spec_core.proofs.Lists.{each-at}
use Rattle.candidates.specs.Models.{job_of}
use Rattle.board_core.specs.Views.{needed_at}
use Rattle.board_core.proofs.board.Board.with_origins.Goals as goal

pub asked-requires-clause-needed : goal.asked-requires-clause-needed
asked-requires-clause-needed c =
    let tasks = c.args.tasks.now in
    each-at (λ job. IsOneOf job (needed_at c.args.self.now)) job_of tasks tasks c.loop-task.task-index c.task-item.result refl
    c.loop-task-test.true c.task-item.is c.requires.needed
