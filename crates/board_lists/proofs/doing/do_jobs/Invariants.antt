use Rattle.std.proofs.Common.{◌≡◌, None}
use Rattle.board_lists.specs.Leaving.{OnlyLooks}
use Rattle.board_lists.proofs.doing.do_jobs.Given as goal

abbrev pub invariant-loop-job : goal.invariant-loop-job
invariant-loop-job l = record {
  looks : OnlyLooks l.fn.board l.board;
  running : l.board.stop ≡ None;
}
