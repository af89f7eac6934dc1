-- Clients that wait for answers. (This profile.)
use Rattle.std.specs.Prelude.{ℕ, ◌≡◌, ◌≤◌, Bool, false, length}
use Rattle.turn_lock.specs.Seats.{SeatModel}
use Rattle.rule_model.specs.declared.offer.Offer.{Offer}
use Rattle.rule_model.specs.Events.{Event, pended}
use Rattle.session_board.specs.declared.line.Line.{Line}
use Rattle.session_board.specs.declared.spot.Spot.{Spot}
use Rattle.session_board.specs.Answers.{IsSpot}
use Rattle.session.specs.Calls.{HasItsLines, HasMade, HasSeenMore, StaysSeat}
use Rattle.session.specs.Passes.{HasHalted, IsPass, PassView}

-- a pass, as contracts see it
abbrev pub pass_view : SeatModel Line → ℕ → Spot → PassView
pass_view seat client spot = record { lock = seat.lock; client = client; seen = seat.seen; own = seat.own; known = spot.lines }

-- The seat of a pass has made a line of this event, and then seen more; and the pass stands in what it has seen, behind that line.
pub record HasCalled (old made new : SeatModel Line) (client : ℕ) (event : Event) (spot place : Spot) : Type 0 where
  pub pass : IsPass old client spot
  pub running : HasHalted old.seen → ⊥
  pub first : StaysSeat old made
  pub makes : HasMade old made event
  pub owns : HasItsLines made
  pub stays : StaysSeat made new
  pub more : HasSeenMore made new
  pub own : HasItsLines new
  pub behind : length made.seen ≤ place.lines

-- a client that waits: its pass as it was before the call, its offer, and whether it only asks
pub record WaitingView : Type 0 where
  pub before : PassView
  pub offer : Offer
  pub ask : Bool

-- The seat was that of the pass. It has made the offer, by this number, and no line since; and it looks for the answer from the spot on.
pub record IsWaiting (w : WaitingView) (seat : SeatModel Line) (client number : ℕ) (place : Spot) : Type 0 where
  pub old : SeatModel Line
  pub made : SeatModel Line
  pub spot : Spot
  pub was : w.before ≡ pass_view old client spot
  pub lock : seat.lock ≡ w.before.lock
  pub rests : seat.holds_turn ≡ false
  pub called : HasCalled old made seat client (pended client number w.offer w.ask) spot place
  pub spot_is : IsSpot seat.seen place
