-- A lock and its seats, as contracts see them.
use Rattle.std.specs.Prelude.{◌≡◌, ℕ, Bool, false, List, map, Option}
use Rattle.std.specs.List.{range_with_len}
use Rattle.atomic_table.specs.Seated.{TableId}
use Rattle.turn_lock.specs.Entries.{Begins, made_by}

-- which lock it is
abbrev pub LockId : Type 0
LockId = TableId

-- a lock: which one it is, the fixed part of the value with which it was made, and how many seats it has
pub record LockModel (F : Type 0) : Type 0 where
  pub id : LockId
  pub fixed : F
  pub seats : ℕ

-- a seat: the lock that it belongs to, its number, the list that it has seen, the entries that it made, and whether it
-- holds the turn
pub record SeatModel (E : Type 0) : Type 0 where
  pub lock : LockId
  pub number : ℕ
  pub seen : List E
  pub own : List E
  pub holds_turn : Bool

module _ {E : Type 0} where
  -- the seat belongs to this lock and doesn't hold the turn
  abbrev pub IsAtRest : LockId → SeatModel E → Type 0
  IsAtRest id seat = (seat.lock ≡ id) × (seat.holds_turn ≡ false)

module _ {E : Type 0} (maker : E → Option ℕ) where
  -- the list begins with all that the seat has seen, and the seat's own entries are those that it made
  abbrev pub AgreesWith : List E → SeatModel E → Type 0
  AgreesWith xs seat = Begins seat.seen xs × (made_by maker seat.number xs ≡ seat.own)

  -- the seat n of a new lock: it has seen the whole list
  abbrev pub new_seat : LockId → List E → ℕ → SeatModel E
  new_seat id opening n = record { lock = id; number = n; seen = opening; own = made_by maker n opening; holds_turn = false }

  -- the seats of a new lock: the one at place i, from 0, has number i
  abbrev pub new_seats : LockId → List E → ℕ → List (SeatModel E)
  new_seats id opening count = map (new_seat id opening) (range_with_len 0 count)
