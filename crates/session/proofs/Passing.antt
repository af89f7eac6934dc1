-- What passes know after their calls.
use Rattle.std.proofs.Common.{ℕ, ◌+◌, ◌-◌, ◌≤◌, ◌≡◌, ◌∙◌, sym, ap, subst, arith, Bool, [], ◌∷◌, ◌++◌, length, take}
use Rattle.std.proofs.lemmas.List.{take-append-le}
use Rattle.std.proofs.Math.Seq.{take-length}
use Rattle.turn_lock.specs.Entries.{Begins, made_by}
use Rattle.turn_lock.specs.Seats.{SeatModel}
use Rattle.rule_model.specs.declared.offer.Offer.{Offer}
use Rattle.rule_model.specs.Answers.{Answer}
use Rattle.rule_model.specs.Events.{Event, left, pended}
use Rattle.session_board.specs.declared.line.Line.{Line}
use Rattle.session_board.specs.declared.line.Line.TheVariants.{Happened}
use Rattle.session_board.specs.declared.spot.Spot.{Spot}
use Rattle.session_board.specs.Answers.{AnswersAll, EndsWithAnswer, IsSpot}
use Rattle.session.specs.Calls.{HasItsLines, HasSeenMore, IsIdleSeat, StaysSeat}
use Rattle.session_board.specs.Lines.{events_in, maker_of}
use Rattle.session.specs.Passes.{HasHalted, IsPass, KnowsAnswer, KnowsLeave, PassView, SamePass, made_by_client}
use Rattle.session.specs.Waiting.{HasCalled, IsWaiting, WaitingView, pass_view}
use Rattle.session_board.proofs.Growing.{spot_stays}
use Rattle.session_board.proofs.Lists.{fronts}
use Rattle.session.proofs.Owning.{front_made}
use Rattle.session.proofs.Seats.{as_long, begins_on, made_begins, stays_halted}

-- the seat of a pass
pub idle_seat : (seat : SeatModel Line) (client : ℕ) (spot : Spot) → IsPass seat client spot → IsIdleSeat seat client
idle_seat seat client spot h =
    let rest = fronts spot.lines (length seat.seen) seat.seen h.spot_is.within in
    record {
      numbered = h.numbered;
      known = take spot.lines seat.seen;
      begins = (rest.0, sym (take-length seat.seen) ∙ rest.1);
      knows = h.knows_its_answers;
    }

-- where the seat makes no line, the pass stays one
pub pass_stays : (old new : SeatModel Line) (client : ℕ) (spot : Spot) → IsPass old client spot → StaysSeat old new → HasSeenMore old new →
    IsPass new client spot
pass_stays old new client spot h stays more =
    let same : take spot.lines new.seen ≡ take spot.lines old.seen =
    ap (take spot.lines) more.0.1 ∙ take-append-le spot.lines old.seen more.0.0 h.spot_is.within in
    record {
      numbered = ap (λ n. n + 1) stays.1 ∙ h.numbered;
      rests = stays.2 ∙ h.rests;
      spot_is = spot_stays old.seen new.seen spot more.0 h.spot_is;
      knows_its_answers =
          λ running.
          let k = h.knows_its_answers (λ halted. running (stays_halted old.seen new.seen more.0 halted)) in
          record {
            own = ap (λ n. made_by maker_of n (take spot.lines new.seen)) stays.1 ∙ ap (made_by maker_of old.number) same ∙ k.own ∙ sym more.1;
            answered = subst (λ l. AnswersAll client (events_in l)) (sym same) k.answered;
          };
    }

-- where the seat has made a line, a front that reaches it has all lines of the seat
pub front_is_own : (made new : SeatModel Line) (k : ℕ) → HasItsLines made → StaysSeat made new → HasSeenMore made new → HasItsLines new →
    length made.seen ≤ k → made_by maker_of new.number (take k new.seen) ≡ new.own
front_is_own made new k owns stays more own behind =
    let number : new.number ≡ made.number = stays.1 in
    let all : made_by maker_of made.number (made.seen ++ more.0.0) ≡ made_by maker_of made.number made.seen =
    ap (made_by maker_of made.number) (sym more.0.1) ∙ ap (λ n. made_by maker_of n new.seen) (sym number) ∙ own ∙ more.1 ∙ sym owns in
    ap (λ n. made_by maker_of n (take k new.seen)) number ∙ ap (λ l. made_by maker_of made.number (take k l)) more.0.1
    ∙ front_made made.number k made.seen more.0.0 behind all ∙ owns ∙ sym more.1

-- where the seat has made a line, and the pass stands behind it, with all answers, it is one there
pub pass_answered : (old made new : SeatModel Line) (client : ℕ) (spot place : Spot) → IsPass old client spot → StaysSeat old made →
    HasItsLines made → StaysSeat made new → HasSeenMore made new → HasItsLines new → length made.seen ≤ place.lines →
    IsSpot new.seen place → AnswersAll client (events_in (take place.lines new.seen)) → IsPass new client place
pass_answered old made new client spot place h first owns stays more own behind is answered = record {
  numbered = ap (λ n. n + 1) (stays.1 ∙ first.1) ∙ h.numbered;
  rests = stays.2 ∙ first.2 ∙ h.rests;
  spot_is = is;
  knows_its_answers =
      λ running. record {
        own = front_is_own made new place.lines owns stays more own behind;
        answered = answered;
      };
}

-- what it knows goes on
pub knows_more : (old new : SeatModel Line) (spot place : Spot) → Begins old.seen new.seen → IsSpot old.seen spot → spot.lines ≤ place.lines →
    Begins (take spot.lines old.seen) (take place.lines new.seen)
knows_more old new spot place begins is more =
    let same : take spot.lines new.seen ≡ take spot.lines old.seen =
    ap (take spot.lines) begins.1 ∙ take-append-le spot.lines old.seen begins.0 is.within in
    subst (λ l. Begins l (take place.lines new.seen)) same (fronts spot.lines place.lines new.seen more)

module _ (old made new : SeatModel Line) (client : ℕ) (event : Event) (spot place : Spot) (h : HasCalled old made new client event spot place) where
  -- the pass knows more
  begins_more : Begins (take spot.lines old.seen) (take place.lines new.seen)
  begins_more =
      let begins = made_begins old made event h.makes in
      let longer = as_long old.seen made.seen begins in
      let within = h.pass.spot_is.within in
      let behind = h.behind in
      knows_more old new spot place (begins_on old.seen made.seen new.seen begins h.more.0) h.pass.spot_is (omega (arith, longer, within, behind))

  own_more : new.own ≡ old.own ++ Happened h.makes.entry ∷ []
  own_more = h.more.1 ∙ h.makes.own

  one_more : made_by_client client (take place.lines new.seen) ≡ made_by_client client (take spot.lines old.seen) ++ Happened h.makes.entry ∷ []
  one_more =
      let numbered = h.pass.numbered in
      let number : client - 1 ≡ old.number = omega (arith, numbered) in
      ap (λ n. made_by maker_of n (take place.lines new.seen)) (number ∙ sym (h.stays.1 ∙ h.first.1))
      ∙ front_is_own made new place.lines h.owns h.stays h.more h.own h.behind ∙ own_more
      ∙ ap (λ l. l ++ Happened h.makes.entry ∷ []) (sym (h.pass.knows_its_answers h.running).own)
      ∙ ap (λ n. made_by maker_of n (take spot.lines old.seen) ++ Happened h.makes.entry ∷ []) (sym number)

-- it knows the answer to its offer
pub knows_answer : (old made new : SeatModel Line) (client number : ℕ) (offer : Offer) (ask : Bool) (answer : Answer) (spot place : Spot) →
    HasCalled old made new client (pended client number offer ask) spot place → EndsWithAnswer (take place.lines new.seen) (client, number) answer →
    KnowsAnswer (pass_view old client spot) offer ask answer (pass_view new client place)
knows_answer old made new client number offer ask answer spot place h ends = record {
  begins = begins_more old made new client (pended client number offer ask) spot place h;
  number = number;
  entry = h.makes.entry;
  offered = h.makes.is;
  one_more = one_more old made new client (pended client number offer ask) spot place h;
  own = own_more old made new client (pended client number offer ask) spot place h;
  answered = ends;
}

-- where it stands behind all that its seat has seen, it knows that it has left
pub knows_leave : (old new : SeatModel Line) (client : ℕ) (spot place : Spot) → HasCalled old new new client (left client) spot place →
    place.lines ≡ length new.seen → KnowsLeave (pass_view old client spot) (pass_view new client place)
knows_leave old new client spot place h last = record {
  begins = begins_more old new new client (left client) spot place h;
  entry = h.makes.entry;
  leaves = h.makes.is;
  one_more = one_more old new new client (left client) spot place h;
  own = own_more old new new client (left client) spot place h;
  ends = (h.makes.before, ap (λ k. take k new.seen) last ∙ take-length new.seen ∙ h.makes.seen);
}

-- a client that waits still waits after a turn
pub waits_on : (w : WaitingView) (seat new : SeatModel Line) (client number : ℕ) (spot place : Spot) → IsWaiting w seat client number spot →
    StaysSeat seat new → HasSeenMore seat new → HasItsLines new → spot.lines ≤ place.lines → IsSpot new.seen place →
    IsWaiting w new client number place
waits_on w seat new client number spot place h stays more own further is =
    let c = h.called in
    let behind = c.behind in
    record {
      old = h.old;
      made = h.made;
      spot = h.spot;
      was = h.was;
      lock = stays.0 ∙ h.lock;
      rests = stays.2 ∙ h.rests;
      called = record {
        pass = c.pass;
        running = c.running;
        first = c.first;
        makes = c.makes;
        owns = c.owns;
        stays = (stays.0 ∙ c.stays.0, stays.1 ∙ c.stays.1, stays.2 ∙ c.stays.2);
        more = (begins_on h.made.seen seat.seen new.seen c.more.0 more.0, more.1 ∙ c.more.1);
        own = own;
        behind = omega (arith, behind, further);
      };
      spot_is = is;
    }

-- where it has its answer, it has a pass again
pub waiting_pass : (w : WaitingView) (seat : SeatModel Line) (client number : ℕ) (spot : Spot) → IsWaiting w seat client number spot →
    AnswersAll client (events_in (take spot.lines seat.seen)) → IsPass seat client spot
waiting_pass w seat client number spot h answered =
    let c = h.called in
    pass_answered h.old h.made seat client h.spot spot c.pass c.first c.owns c.stays c.more c.own c.behind h.spot_is answered

-- which knows the answer
pub waiting_knows : (w : WaitingView) (seat : SeatModel Line) (client number : ℕ) (spot : Spot) (answer : Answer) →
    IsWaiting w seat client number spot → EndsWithAnswer (take spot.lines seat.seen) (client, number) answer →
    KnowsAnswer w.before w.offer w.ask answer (pass_view seat client spot)
waiting_knows w seat client number spot answer h ends =
    subst (λ (p : PassView). KnowsAnswer p w.offer w.ask answer (pass_view seat client spot)) (sym h.was)
    (knows_answer h.old h.made seat client number w.offer w.ask answer h.spot spot h.called ends)

pub waiting_same : (w : WaitingView) (seat : SeatModel Line) (client number : ℕ) (spot : Spot) → IsWaiting w seat client number spot →
    SamePass w.before (pass_view seat client spot)
waiting_same w seat client number spot h = (h.lock, sym (ap (λ (p : PassView). p.client) h.was))
