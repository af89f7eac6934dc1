-- What the calls of clients do with their seats. (This profile.)
use Rattle.std.specs.Prelude.{ℕ, ◌+◌, ◌≡◌, ◌<◌, ◌++◌, ◌∷◌, [], List, length}
use Rattle.spec_core.specs.Code.{program_of}
use Rattle.turn_lock.specs.Entries.{Begins, made_by}
use Rattle.turn_lock.specs.Seats.{SeatModel}
use Rattle.rule_model.specs.declared.log.Entry.{Entry}
use Rattle.rule_model.specs.declared.offer.Offer.{Offer}
use Rattle.rule_model.specs.Events.{Event, event_of}
use Rattle.session.specs.declared.calls.CallFault.{CallFault}
use Rattle.session.specs.declared.calls.CallFault.TheVariants.{Left, NoSuchGate, Memory}
use Rattle.session_board.specs.declared.line.Line.{Line}
use Rattle.session_board.specs.declared.line.Line.TheVariants.{Happened}
use Rattle.session_board.specs.Lines.{maker_of}
use Rattle.session.specs.Passes.{PassView, HasHalted, HasLeftBy, KnowsItsAnswers}
use Rattle.session.specs.Sessions.{SessionView}

-- the same seat, at rest again
abbrev pub StaysSeat : SeatModel Line → SeatModel Line → Type 0
StaysSeat old new = (new.lock ≡ old.lock) × (new.number ≡ old.number) × (new.holds_turn ≡ old.holds_turn)

-- its lines are those that it has made of what it has seen
abbrev pub HasItsLines : SeatModel Line → Type 0
HasItsLines seat = made_by maker_of seat.number seat.seen ≡ seat.own

-- it has seen more of the list, and has made no line more
abbrev pub HasSeenMore : SeatModel Line → SeatModel Line → Type 0
HasSeenMore old new = Begins old.seen new.seen × (new.own ≡ old.own)

-- it has seen more of the list, whose last line is an entry of this event, which it has made
pub record HasMade (old new : SeatModel Line) (event : Event) : Type 0 where
  pub before : List Line
  pub begins : Begins old.seen before
  pub entry : Entry
  pub is : event_of entry ≡ event
  pub seen : new.seen ≡ before ++ Happened entry ∷ []
  pub own : new.own ≡ old.own ++ Happened entry ∷ []

-- The seat of a client knows its answers in a beginning of what it has seen, unless a turn met want of memory.
pub record IsIdleSeat (seat : SeatModel Line) (client : ℕ) : Type 0 where
  pub numbered : seat.number + 1 ≡ client
  pub known : List Line
  pub begins : Begins known seat.seen
  pub knows : (HasHalted seat.seen → ⊥) → KnowsItsAnswers seat client known

-- the gate is the specification's
abbrev pub HasGate : SessionView → Offer → Type 0
HasGate s offer = offer.gate.0 < length (program_of s.lock.fixed.checked).gates

-- what lets a client that has made these lines call: it hasn't left, and the gate is the specification's
abbrev pub MayCallBy : SessionView → ℕ → List Line → Offer → Type 0
MayCallBy s client own offer = (HasLeftBy client own → ⊥) × HasGate s offer

abbrev pub MayCall : SessionView → PassView → Offer → Type 0
MayCall s p offer = MayCallBy s p.client p.own offer

-- Why a call of a client that had made these lines does nothing: the client has left; or it hasn't, and the gate isn't the specification's; or
-- a turn met want of memory, as was seen.
abbrev pub ExplainsCallBy : SessionView → ℕ → List Line → List Line → Offer → CallFault → Type 0
ExplainsCallBy s client own seen offer Left = HasLeftBy client own
ExplainsCallBy s client own seen offer NoSuchGate = (HasLeftBy client own → ⊥) × (HasGate s offer → ⊥)
ExplainsCallBy s client own seen offer Memory = HasHalted seen

abbrev pub ExplainsCall : SessionView → PassView → PassView → Offer → CallFault → Type 0
ExplainsCall s p q offer fault = ExplainsCallBy s p.client p.own q.seen offer fault

-- Why a client that had made these lines doesn't leave: it has left; or a turn met want of memory, as was seen.
abbrev pub ExplainsLeavingBy : ℕ → List Line → List Line → CallFault → Type 0
ExplainsLeavingBy client own seen Left = HasLeftBy client own
ExplainsLeavingBy client own seen NoSuchGate = ⊥
ExplainsLeavingBy client own seen Memory = HasHalted seen

abbrev pub ExplainsLeaving : PassView → PassView → CallFault → Type 0
ExplainsLeaving p q fault = ExplainsLeavingBy p.client p.own q.seen fault

-- A call that is refused makes no line. Want of memory can show when the offer is made already.
abbrev pub MakesNone : PassView → PassView → CallFault → Type 0
MakesNone p q Left = q.own ≡ p.own
MakesNone p q NoSuchGate = q.own ≡ p.own
MakesNone p q Memory = Unit {0}
