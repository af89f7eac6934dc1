use Rattle.std.proofs.Common.{◌≡◌, None}
use Rattle.board_lists.specs.Leaving.{OnlyLooks}
use Rattle.board_lists.proofs.list.list.Given as goal

abbrev pub invariant-loop : goal.invariant-loop
invariant-loop l = record {
  looks : OnlyLooks l.fn.board l.board;
  running : l.board.stop ≡ None;
}
