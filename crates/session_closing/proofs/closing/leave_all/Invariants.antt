use Rattle.std.proofs.Common.{◌+◌}
use Rattle.session_closing.proofs.Leaving.{HaveLeftBelow}
use Rattle.session_closing.proofs.closing.leave_all.Given as goal

abbrev pub invariant-loop-number : goal.invariant-loop-number
invariant-loop-number l = HaveLeftBelow (l.number + 1) (l.clients + 1) l.fn.board l.board
