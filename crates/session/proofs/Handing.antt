-- The seats of passes.
use Rattle.std.proofs.Common.{ℕ, ◌≡◌, ap, subst, false}
use Rattle.turn_lock.specs.Seats.{SeatModel}
use Rattle.session_board.specs.declared.line.Line.{Line}
use Rattle.session_board.specs.declared.spot.Spot.{Spot}
use Rattle.session.specs.Calls.{IsIdleSeat}
use Rattle.session.specs.Closing.{IsSeatOf, IsSeatOfWorker}
use Rattle.session.specs.Passes.{PassView, WorkPassView, IsPass}
use Rattle.session.proofs.Passing.{idle_seat}

pub seat_of_pass : (p : PassView) (seat : SeatModel Line) (client : ℕ) (spot : Spot) →
    record { lock = seat.lock; client = client; seen = seat.seen; own = seat.own; known = spot.lines } ≡ p → IsPass seat client spot →
    IsSeatOf p seat
seat_of_pass p seat client spot is h = record {
  lock = ap (λ (v : PassView). v.lock) is;
  rests = h.rests;
  seen = ap (λ (v : PassView). v.seen) is;
  own = ap (λ (v : PassView). v.own) is;
  idle = subst (IsIdleSeat seat) (ap (λ (v : PassView). v.client) is) (idle_seat seat client spot h);
}

pub seat_of_work_pass : (p : WorkPassView) (seat : SeatModel Line) (clients taken handed : ℕ) →
    record { lock = seat.lock; number = seat.number; clients = clients; seen = seat.seen; own = seat.own; taken = taken; handed = handed } ≡ p →
    seat.holds_turn ≡ false → IsSeatOfWorker p seat
seat_of_work_pass p seat clients taken handed is rests = record {
  lock = ap (λ (v : WorkPassView). v.lock) is;
  rests = rests;
  seen = ap (λ (v : WorkPassView). v.seen) is;
  number = ap (λ (v : WorkPassView). v.number) is;
}
