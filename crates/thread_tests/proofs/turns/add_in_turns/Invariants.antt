use Rattle.std.proofs.Common.{◌≡◌}
use Rattle.turn_lock.specs.Seats.{IsAtRest}
use Rattle.thread_tests.proofs.turns.add_in_turns.Given as goal

abbrev pub invariant-loop : goal.invariant-loop
invariant-loop g l = IsAtRest l.lock.id l.seat × (l.seat.number ≡ l.number)
