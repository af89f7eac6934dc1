-- How a session begins. (This profile.)
use Rattle.std.specs.Prelude.{ℕ, ◌+◌, ◌≡◌, [], ◌∷◌, List, Bool, false}
use Rattle.spec_core.specs.declared.window.Window.{Window}
use Rattle.turn_lock.specs.Seats.{LockId, SeatModel}
use Rattle.session_board.specs.declared.line.Line.{Line}
use Rattle.session.specs.Passes.{PassView, WorkPassView}

-- what a window holds
pub record Content : Type 0 where
  pub values : List (List ℕ)
  pub complete : Bool

abbrev pub content_of : Window → Content
content_of window = record { values = window.values.items; complete = window.complete }

-- the pass of the client whose seat has this number; it knows nothing yet
abbrev pub new_pass : LockId → ℕ → PassView
new_pass id number = record { lock = id; client = number + 1; seen = []; own = []; known = 0 }

abbrev pub new_work_pass : LockId → ℕ → ℕ → WorkPassView
new_work_pass id clients number = record { lock = id; number = number; clients = clients; seen = []; own = []; taken = 0; handed = 0 }

-- The seats have these numbers, one after another; they have no turn, and have made no line.
abbrev pub AreFresh : ℕ → List (SeatModel Line) → Type 0
AreFresh number [] = Unit {0}
AreFresh number (seat ∷ seats) = (seat.number ≡ number) × (seat.holds_turn ≡ false) × (seat.own ≡ []) × AreFresh (number + 1) seats

-- the pass of the client that has this seat; it knows nothing yet
abbrev pub pass_of : SeatModel Line → PassView
pass_of seat = record { lock = seat.lock; client = seat.number + 1; seen = seat.seen; own = seat.own; known = 0 }

-- the pass of the worker that has this seat, where there are so many clients
abbrev pub work_pass_of : ℕ → SeatModel Line → WorkPassView
work_pass_of clients seat = record {
  lock = seat.lock;
  number = seat.number;
  clients = clients;
  seen = seat.seen;
  own = seat.own;
  taken = 0;
  handed = 0;
}
