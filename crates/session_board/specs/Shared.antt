-- What is behind the lock of a session. (This profile.)
use Rattle.std.specs.Prelude.{◌≡◌, List, Bool, true}
use Rattle.board_core.specs.Views.{BoardView, program, events, state}
use Rattle.session_laws.specs.Sessions.{IsDriven}
use Rattle.session_board.specs.declared.fixed.FixedPart.{FixedPart}
use Rattle.session_board.specs.declared.line.Line.{Line}
use Rattle.session_board.specs.Lines.{lines_of}
use Rattle.session_board.specs.Turning.{HasNothingToDo}

-- the board, and whether a turn met want of memory
pub record SharedView : Type 0 where
  pub board : BoardView
  pub halted : Bool

abbrev pub lines : SharedView → List Line
lines v = lines_of v.board.session.entries v.halted

-- the specification, the settings, the number of clients, and the first values of each sort
abbrev pub fixed_part : SharedView → FixedPart
fixed_part v = record {
  checked = v.board.session.checked;
  settings = v.board.settings;
  clients = v.board.session.clients;
  windows = v.board.windows;
}

-- a turn met want of memory
abbrev pub IsMarked : SharedView → Type 0
IsMarked v = v.halted ≡ true

-- the log of a board is driven
abbrev pub HasDrivenLog : BoardView → Type 0
HasDrivenLog v = IsDriven (program v) v.settings v.session.clients v.stop (events v) (state v)

-- The log of the board is driven; and where it is noted that nothing is to be done on it, that is so.
pub record IsSound (v : BoardView) (is_idle : Bool) : Type 0 where
  pub driven : HasDrivenLog v
  pub idle : is_idle ≡ true → HasNothingToDo v v
