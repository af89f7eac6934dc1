use Rattle.std.specs.Prelude.{◌≤◌}
use Rattle.session_board.specs.Answers.{IsSpot}
use Rattle.session_board.specs.Looks.{ComesOfLook}
use Rattle.session.specs.Calls.{HasItsLines, HasSeenMore, StaysSeat}
use Rattle.session.specs.Passes.{HasHalted}
use Rattle.session.specs.Sessions.{IsGiven}
use Rattle.session.specs.Working.{OnLook}
use Rattle.session.proofs.session.Session.await_answer.Given as goal

abbrev pub invariant-loop : goal.invariant-loop
invariant-loop g l = record {
  stays : StaysSeat l.fn.seat l.seat;
  own : HasItsLines l.seat;
  more : HasSeenMore l.fn.seat l.seat;
  spot : IsSpot l.seat.seen l.spot;
  behind : l.fn.from.lines ≤ l.spot.lines;
  found : ComesOfLook l.seat.seen l.fn.name l.spot l.look;
  given : OnLook (IsGiven l.fn.self) l.look;
  running : HasHalted l.seat.seen → ⊥;
}
