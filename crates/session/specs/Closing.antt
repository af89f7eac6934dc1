-- Sessions that are closed. (This profile.)
use Rattle.std.specs.Prelude.{ℕ, ◌+◌, ◌-◌, ◌≡◌, ◌⊎◌, ◌≤◌, ◌<◌, ◌++◌, [], ◌∷◌, List, Contains, filter, map, false}
use Rattle.std.specs.List.{AllByRecursion}
use Rattle.turn_lock.specs.Entries.{is_named}
use Rattle.turn_lock.specs.Seats.{SeatModel}
use Rattle.rule_model.specs.Events.{Event, left}
use Rattle.session_board.specs.declared.line.Line.{Line}
use Rattle.session_board.specs.Lines.{events_in, seat_for}
use Rattle.session.specs.Calls.{IsIdleSeat}
use Rattle.session.specs.Passes.{PassView, WorkPassView, HasLeft}

-- each of so many clients has its pass among these
abbrev pub AreAllClients : ℕ → List PassView → Type 0
AreAllClients clients passes = (k : ℕ) → 1 ≤ k → k ≤ clients → Contains (map (λ (p : PassView). p.client) passes) k

-- each of so many workers, whose numbers follow those of the clients' seats, has its pass among these
abbrev pub AreAllWorkers : ℕ → ℕ → List WorkPassView → Type 0
AreAllWorkers clients workers passes =
    (k : ℕ) → clients ≤ k → k < clients + workers → Contains (map (λ (p : WorkPassView). p.number) passes) k

-- the entries of a log that the client makes: its offers, its asks, and that it leaves
abbrev pub events_by : ℕ → List Event → List Event
events_by client log = filter (λ event. is_named (client - 1) (seat_for event)) log

-- Of the client just the entries stand in the log that its pass has made, and, where it hadn't left, that it leaves, behind them.
pub record HasItsEntries (log : List Event) (p : PassView) : Type 0 where
  pub had_left : HasLeft p → events_by p.client log ≡ events_in p.own
  pub leaves : (HasLeft p → ⊥) → events_by p.client log ≡ events_in p.own ++ left p.client ∷ []

-- the seat is that of a client's pass
pub record IsSeatOf (p : PassView) (seat : SeatModel Line) : Type 0 where
  pub lock : seat.lock ≡ p.lock
  pub rests : seat.holds_turn ≡ false
  pub seen : seat.seen ≡ p.seen
  pub own : seat.own ≡ p.own
  pub idle : IsIdleSeat seat p.client

-- the seat is that of a worker's pass
pub record IsSeatOfWorker (p : WorkPassView) (seat : SeatModel Line) : Type 0 where
  pub lock : seat.lock ≡ p.lock
  pub rests : seat.holds_turn ≡ false
  pub seen : seat.seen ≡ p.seen
  pub number : seat.number ≡ p.number

module _ {P : Type 0} (IsOf : P → SeatModel Line → Type 0) where
  -- the pass has its seat among these
  abbrev pub HasSeat : List (SeatModel Line) → P → Type 0
  HasSeat seats p = (seat : SeatModel Line) × Contains seats seat × IsOf p seat

  -- the seat is that of one of these passes
  abbrev pub IsSeatOfOne : List P → SeatModel Line → Type 0
  IsSeatOfOne passes seat = (p : P) × Contains passes p × IsOf p seat

  -- the seats of the passes stand behind others
  pub record AddsSeats (passes : List P) (old new : List (SeatModel Line)) : Type 0 where
    pub more : List (SeatModel Line)
    pub behind : new ≡ old ++ more
    pub each : AllByRecursion (HasSeat more) passes
    pub only : AllByRecursion (IsSeatOfOne passes) more

-- the seats of all passes, and one more
pub record AreSeatsOf (passes : List PassView) (workers : List WorkPassView) (keeper : SeatModel Line) (seats : List (SeatModel Line)) :
    Type 0 where
  pub of_clients : AllByRecursion (HasSeat IsSeatOf seats) passes
  pub of_workers : AllByRecursion (HasSeat IsSeatOfWorker seats) workers
  pub kept : Contains seats keeper
  pub only : AllByRecursion (λ seat. IsSeatOfOne IsSeatOf passes seat ⊎ IsSeatOfOne IsSeatOfWorker workers seat ⊎ (seat ≡ keeper)) seats
