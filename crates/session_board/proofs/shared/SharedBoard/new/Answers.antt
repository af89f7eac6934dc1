use Rattle.std.proofs.Common.{false, refl}
use Rattle.session_board.proofs.Sharing.{no_lines}
use Rattle.session_board.proofs.shared.SharedBoard.new.Goals as goal

pub returns-clause-lines : goal.returns-clause-lines
returns-clause-lines c = no_lines (record { board = c.args.board; halted = false }) refl c.requires.new
