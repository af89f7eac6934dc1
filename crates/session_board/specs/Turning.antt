-- What a turn does with the board. (This profile.)
use Rattle.std.specs.Prelude.{◌≡◌, [], Bool, true, false}
use Rattle.board_core.specs.Views.{BoardView, state, SameLog, SameNodes, SameSetting}
use Rattle.board_core.specs.Settled.{HasSettled, IsQuiet}
use Rattle.board_core.specs.Working.{IsHandedOut, WhyNone}
use Rattle.session_board.specs.declared.turning.Turn.{Turn}
use Rattle.session_board.specs.declared.turning.Turn.TheVariants.{Free, Settled, Idle, Over}

-- there is no further entry
abbrev pub StaysQuiet : BoardView → BoardView → Type 0
StaysQuiet old new = SameSetting old new × IsQuiet old new

-- nothing is to be done now: there is no further entry, and no job
abbrev pub HasNothingToDo : BoardView → BoardView → Type 0
HasNothingToDo old new = (quiet : BoardView) × StaysQuiet old quiet × WhyNone quiet new

-- What came of a turn: an entry was appended; or nothing was left to append, and a job was handed out; or there was no job either, and some
-- client is open, or none is.
abbrev pub ComesOfTurn : BoardView → BoardView → Turn → Type 0
ComesOfTurn old new Settled = HasSettled old new
ComesOfTurn old new (Free job) = (quiet : BoardView) × StaysQuiet old quiet × IsHandedOut quiet new job
ComesOfTurn old new Idle = HasNothingToDo old new × ((state new).open_clients ≡ [] → ⊥)
ComesOfTurn old new Over = HasNothingToDo old new × ((state new).open_clients ≡ [])

-- whether nothing was to be done
abbrev pub is_idle : Turn → Bool
is_idle Settled = false
is_idle (Free job) = false
is_idle Idle = true
is_idle Over = true

-- nothing that contracts see has changed, but for what stops the session
pub record StaysStill (old new : BoardView) : Type 0 where
  pub setting : SameSetting old new
  pub log : SameLog old new
  pub nodes : SameNodes old new
  pub out : new.out ≡ old.out
