-- What passes know. (This profile.)
use Rattle.std.specs.Prelude.{ℕ, ◌+◌, ◌-◌, ◌≡◌, ◌++◌, [], ◌∷◌, List, Bool, false, take, Contains}
use Rattle.turn_lock.specs.Entries.{Begins, made_by}
use Rattle.turn_lock.specs.Seats.{LockId, SeatModel}
use Rattle.rule_model.specs.declared.log.Entry.{Entry}
use Rattle.rule_model.specs.declared.offer.Offer.{Offer}
use Rattle.rule_model.specs.Answers.{Answer}
use Rattle.rule_model.specs.Events.{event_of, left, pended}
use Rattle.session_board.specs.declared.line.Line.{Line}
use Rattle.session_board.specs.declared.line.Line.TheVariants.{Happened, Halted}
use Rattle.session_board.specs.declared.spot.Spot.{Spot}
use Rattle.session_board.specs.Answers.{AnswersAll, EndsWithAnswer, IsSpot}
use Rattle.session_board.specs.Lines.{events_in, maker_of}

-- a client's pass: its lock, the client's number, the list that its seat has seen, the lines of it that the client made, and how many
-- lines of the list it knows
pub record PassView : Type 0 where
  pub lock : LockId
  pub client : ℕ
  pub seen : List Line
  pub own : List Line
  pub known : ℕ

-- the beginning of the one list that the pass knows
abbrev pub knows : PassView → List Line
knows p = take p.known p.seen

-- the lines among these that the client has made: it offered, asked or left by them
abbrev pub made_by_client : ℕ → List Line → List Line
made_by_client client lines = made_by maker_of (client - 1) lines

-- What the seat of a client knows of the list: of the client just the lines that it has made stand there, and each of its offers is answered
-- there.
pub record KnowsItsAnswers (seat : SeatModel Line) (client : ℕ) (known : List Line) : Type 0 where
  pub own : made_by maker_of seat.number known ≡ seat.own
  pub answered : AnswersAll client (events_in known)

-- a turn met want of memory, as far as was seen
abbrev pub HasHalted : List Line → Type 0
HasHalted seen = Contains seen Halted

-- what holds of a pass: its seat is the client's, and has no turn; it stands in the list that the seat has seen; and it knows its answers up
-- to there, unless a turn met want of memory
pub record IsPass (seat : SeatModel Line) (client : ℕ) (spot : Spot) : Type 0 where
  pub numbered : seat.number + 1 ≡ client
  pub rests : seat.holds_turn ≡ false
  pub spot_is : IsSpot seat.seen spot
  pub knows_its_answers : (HasHalted seat.seen → ⊥) → KnowsItsAnswers seat client (take spot.lines seat.seen)

-- the same pass
abbrev pub SamePass : PassView → PassView → Type 0
SamePass p q = (q.lock ≡ p.lock) × (q.client ≡ p.client)

-- The pass knows a longer beginning of the list. It ends with the entry that answers, and has one line more of the client, which is its last:
-- its offer.
pub record KnowsAnswer (p : PassView) (offer : Offer) (ask : Bool) (answer : Answer) (q : PassView) : Type 0 where
  pub begins : Begins (knows p) (knows q)
  pub number : ℕ
  pub entry : Entry
  pub offered : event_of entry ≡ pended p.client number offer ask
  pub one_more : made_by_client p.client (knows q) ≡ made_by_client p.client (knows p) ++ Happened entry ∷ []
  pub own : q.own ≡ p.own ++ Happened entry ∷ []
  pub answered : EndsWithAnswer (knows q) (p.client, number) answer

-- The pass knows a longer beginning of the list. It ends with the one line more of the client, by which it leaves.
pub record KnowsLeave (p q : PassView) : Type 0 where
  pub begins : Begins (knows p) (knows q)
  pub entry : Entry
  pub leaves : event_of entry ≡ left p.client
  pub one_more : made_by_client p.client (knows q) ≡ made_by_client p.client (knows p) ++ Happened entry ∷ []
  pub own : q.own ≡ p.own ++ Happened entry ∷ []
  pub ends : (before : List Line) × (knows q ≡ before ++ Happened entry ∷ [])

-- the client has left, by the lines that it has made
abbrev pub HasLeftBy : ℕ → List Line → Type 0
HasLeftBy client own = Contains (events_in own) (left client)

-- the client has left
abbrev pub HasLeft : PassView → Type 0
HasLeft p = HasLeftBy p.client p.own

-- a worker's pass: its lock, its seat's number, how many clients there are, the list that its seat has seen, the lines of it that the seat made,
-- and how many jobs it took and put
pub record WorkPassView : Type 0 where
  pub lock : LockId
  pub number : ℕ
  pub clients : ℕ
  pub seen : List Line
  pub own : List Line
  pub taken : ℕ
  pub handed : ℕ
