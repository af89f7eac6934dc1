use Rattle.std.proofs.Common.{◌≡◌, false}
use Rattle.session.specs.Passes.{HasHalted}
use Rattle.session.proofs.desk.SessionDesk.take.Given as goal

abbrev pub invariant-loop : goal.invariant-loop
invariant-loop g l = record {
  lock : l.seat-inside.seat.lock ≡ l.fn.seat.lock;
  number : l.seat-inside.seat.number ≡ l.fn.seat.number;
  rests : l.seat-inside.seat.holds_turn ≡ false;
  clients : l.seat-inside.clients ≡ l.fn.seat.clients;
  taken : l.seat-inside.taken ≡ l.fn.seat.taken;
  handed : l.seat-inside.handed ≡ l.fn.seat.handed;
  still : HasHalted l.fn.seat.seen → HasHalted l.seat-inside.seat.seen;
}
