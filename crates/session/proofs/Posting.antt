-- What a turn of a client tells, by the lines that its seat has made.
use Rattle.std.proofs.Common.{ℕ, ◌+◌, ◌-◌, ◌<◌, ◌≡◌, sym, subst, Contains, length, Some, Result, Ok, Err, IfOk, OnErr}
use Rattle.spec_core.specs.Code.{program_of}
use Rattle.turn_lock.specs.Entries.{Continues}
use Rattle.turn_lock.specs.Seats.{AgreesWith, SeatModel}
use Rattle.rule_model.specs.declared.offer.Offer.{Offer}
use Rattle.rule_model.specs.Events.{Event, left}
use Rattle.board_record.specs.declared.faults.LeaveFault.TheVariants as leaving
use Rattle.board_record.specs.declared.faults.PendFault.TheVariants.{NotOpen, NoSuchGate}
use Rattle.board_core.specs.Views.{events, program}
use Rattle.session_board.specs.declared.fixed.FixedPart.{FixedPart}
use Rattle.session_board.specs.declared.line.Line.{Line}
use Rattle.session_board.specs.Faults.{ExplainsNoLeave, ExplainsNoOffer, HasntLeft, MayBeMade}
use Rattle.session_board.specs.Growing.{GrowsByNone, GrowsByOne}
use Rattle.session_board.specs.Lines.{events_in, maker_of, seat_for}
use Rattle.session_board.specs.Shared.{SharedView, fixed_part, lines}
use Rattle.session_board.proofs.Lists.{events_of_lines}
use Rattle.session.specs.declared.calls.CallFault.TheVariants as call
use Rattle.session.specs.Calls.{ExplainsCallBy, ExplainsLeavingBy, HasGate, MayCallBy}
use Rattle.session.specs.Passes.{HasLeftBy}
use Rattle.session.specs.Sessions.{SessionView}
use Rattle.session.proofs.Owning.{left_is_own, own_is_there}
use Rattle.session.proofs.Seats.{gives_none, gives_one}

module _ (client : ℕ) (v : SharedView) (seat : SeatModel Line) (number : seat.number + 1 ≡ client) (agrees : AgreesWith maker_of (lines v) seat) where
  events_are : events_in (lines v) ≡ events v.board
  events_are = events_of_lines v.board.session.entries v.halted

  -- who has left has done so by a line of its seat
  left_by : Contains (events v.board) (left client) → HasLeftBy client seat.own
  left_by h =
      subst (HasLeftBy client) agrees.1
      (left_is_own seat.number client number (lines v) (subst (λ l. Contains l (left client)) (sym events_are) h))

  has_left : HasLeftBy client seat.own → Contains (events v.board) (left client)
  has_left h =
      subst (λ l. Contains l (left client)) events_are
      (own_is_there seat.number (lines v) (left client) (subst (HasLeftBy client) (sym agrees.1) h))

  module _ (s : SessionView) (same : fixed_part v ≡ s.lock.fixed) (offer : Offer) where
    on_session : MayBeMade v client offer → HasGate s offer
    on_session h = subst (λ (f : FixedPart). offer.gate.0 < length (program_of f.checked).gates) same h.1

    on_board : HasGate s offer → offer.gate.0 < length (program v.board).gates
    on_board h = subst (λ (f : FixedPart). offer.gate.0 < length (program_of f.checked).gates) (sym same) h

    pub may_call : MayBeMade v client offer → MayCallBy s client seat.own offer
    may_call h = (λ gone. h.0 (has_left gone), on_session h)

    pub has_left_before : (w : SharedView) (new : SeatModel Line) → ExplainsNoOffer v w client offer NotOpen →
        ExplainsCallBy s client seat.own new.seen offer call.Left
    has_left_before w new h = left_by h

    pub has_no_gate : (w : SharedView) (new : SeatModel Line) → ExplainsNoOffer v w client offer NoSuchGate →
        ExplainsCallBy s client seat.own new.seen offer call.NoSuchGate
    has_no_gate w new h = (λ gone. h.0 (has_left gone), λ gate. h.1 (on_board gate))

  pub may_leave : HasntLeft v client → HasLeftBy client seat.own → ⊥
  may_leave h gone = h (has_left gone)

  pub left_already : (w : SharedView) (new : SeatModel Line) → ExplainsNoLeave v w client leaving.NotOpen →
      ExplainsLeavingBy client seat.own new.seen call.Left
  left_already w new h = left_by h

-- a turn of a client goes on by its line, or by lines that no seat makes
pub gives_either : {A E : Type 0} (n client : ℕ) (v w : SharedView) (r : Result A E) (event : A → Event) → n + 1 ≡ client →
    ((a : A) → seat_for (event a) ≡ Some (client - 1)) → IfOk r (λ a. GrowsByOne v w (event a)) → OnErr r (GrowsByNone v w) →
    Continues maker_of n (lines v) (lines w)
gives_either n client v w (Ok a) event number made one none = gives_one n client (event a) v w number (made a) one
gives_either n client v w (Err e) event number made one none = gives_none n v w none
