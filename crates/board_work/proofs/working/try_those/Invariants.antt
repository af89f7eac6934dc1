use Rattle.std.proofs.Common.{length}
use Rattle.spec_core.specs.Lists.{Each}
use Rattle.board_core.specs.Views.{program}
use Rattle.board_core.specs.Working.{IsOfValues}
use Rattle.board_work.specs.Handed.{HandsIn}
use Rattle.board_work.proofs.working.try_those.Given as goal

abbrev pub invariant-loop-job : goal.invariant-loop-job
invariant-loop-job l = record {
  values : Each (IsOfValues (program l.board)) l.jobs.items;
  handed : HandsIn l.fn.board l.board;
}

abbrev pub decreases-loop-job : goal.decreases-loop-job
decreases-loop-job l = length l.jobs.items
