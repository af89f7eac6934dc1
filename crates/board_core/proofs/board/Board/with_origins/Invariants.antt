use Rattle.std.proofs.Common.{◌≡◌, map, take}
use Rattle.spec_core.specs.Lists.{Each}
use Rattle.candidates.specs.Models.{job_of}
use Rattle.board_core.specs.Working.{IsAsked}
use Rattle.board_core.proofs.board.Board.with_origins.Given as goal

abbrev pub invariant-loop-task : goal.invariant-loop-task
invariant-loop-task l = record {
  those : map (λ job. job_of job.task) l.jobs.items ≡ map job_of (take l.task-index l.tasks);
  each : Each (IsAsked l.self) l.jobs.items;
}
