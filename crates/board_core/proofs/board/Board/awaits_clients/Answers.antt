use Rattle.std.proofs.Common.{rules}
use Rattle.board_core.specs.Views.{state}
use Rattle.board_core.proofs.Quiet.{awaits_by}
use Rattle.board_core.proofs.board.Board.awaits_clients.Goals as goal

pub returns-then-none_pending : goal.returns-then-none_pending
returns-then-none_pending c = awaits_by (state c.args.self.now) c.all_wait.result (search rules) c.all_wait.ensures
