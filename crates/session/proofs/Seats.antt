-- What seats know after their turns.
use Rattle.std.proofs.Common.{ℕ, ◌+◌, ◌-◌, ◌≤◌, ◌≡◌, ◌∙◌, refl, sym, ap, subst, arith, List, [], ◌∷◌, ◌++◌, length, map}
use Rattle.std.proofs.Common.{append_assoc, append-nil, length-append, Bool, true, false, Contains, Some, Result, Ok, Err, OnErr}
use Rattle.std.proofs.lemmas.List.Elements.{Contains-append_left, Contains-append_right}
use Rattle.spec_core.proofs.Members.{contains_first, contains_none}
use Rattle.turn_lock.specs.Entries.{Begins, Continues, made_by}
use Rattle.turn_lock.specs.Seats.{AgreesWith, SeatModel}
use Rattle.rule_model.specs.declared.log.Entry.{Entry}
use Rattle.rule_model.specs.Events.{Event}
use Rattle.session_closing.proofs.Members.{in_cases}
use Rattle.session_closing.proofs.Tests.{on_either}
use Rattle.session_laws.specs.Answers.{offers_by}
use Rattle.session_board.specs.declared.line.Line.{Line}
use Rattle.session_board.specs.declared.line.Line.TheVariants.{Happened, Halted}
use Rattle.session_board.specs.Answers.{HasItsAnswers}
use Rattle.session.specs.declared.calls.CallFault.{CallFault}
use Rattle.session.specs.declared.calls.CallFault.TheVariants.{Memory}
use Rattle.session.specs.Calls.{HasMade, HasSeenMore, IsIdleSeat, StaysSeat}
use Rattle.session_board.specs.Growing.{GrowsByNone, GrowsByOne}
use Rattle.session_board.specs.Lines.{events_in, lines_of, maker_of, seat_for}
use Rattle.session.specs.Passes.{HasHalted}
use Rattle.session_board.specs.Shared.{IsMarked, SharedView, lines}
use Rattle.session_board.proofs.Growing.{continues_by_none, made_by_none}
use Rattle.session_board.proofs.Lists.{running_lines}
use Rattle.session.proofs.Owning.{continues_by_one, made_by_one, names_itself, none_made_behind, same_offers}

-- beginnings

pub begins_on : {A : Type 0} (xs ys zs : List A) → Begins xs ys → Begins ys zs → Begins xs zs
begins_on xs ys zs h k = (h.0 ++ k.0, k.1 ∙ ap (λ l. l ++ k.0) h.1 ∙ append_assoc xs h.0 k.0)

-- the mark

no_mark : (xs : List Entry) → Contains (map Happened xs) Halted → ⊥
no_mark [] h = contains_none Halted h
no_mark (x ∷ xs) h = on_either (in_cases (Happened x) Halted (map Happened xs) h) (λ e. let never : ⊥ = cc in never) (λ k. no_mark xs k)

pub isnt_halted : (v : SharedView) → v.halted ≡ false → HasHalted (lines v) → ⊥
isnt_halted v running h =
    no_mark v.board.session.entries
    (subst (λ l. Contains l Halted) (ap (lines_of v.board.session.entries) running ∙ running_lines v.board.session.entries) h)

pub is_halted : (v : SharedView) → IsMarked v → HasHalted (lines v)
is_halted v marked =
    subst (λ b. Contains (lines_of v.board.session.entries b) Halted) (sym marked)
    (Contains-append_right (map Happened v.board.session.entries) (Halted ∷ []) Halted (contains_first Halted []))

pub is_marked : (v : SharedView) → HasHalted (lines v) → IsMarked v
is_marked v h = by_mark v.halted refl
  where
    by_mark : (b : Bool) → v.halted ≡ b → IsMarked v
    by_mark true e = e
    by_mark false e = absurd (isnt_halted v e h)

-- where a seat has seen the mark, the list that it was given has it
pub halted_by : (seat : SeatModel Line) (v : SharedView) → seat.seen ≡ lines v → HasHalted seat.seen → IsMarked v
halted_by seat v seen h = is_marked v (subst HasHalted seen h)

pub stays_halted : (xs ys : List Line) → Begins xs ys → HasHalted xs → HasHalted ys
stays_halted xs ys begins h = subst (λ l. Contains l Halted) (sym begins.1) (Contains-append_left xs begins.0 Halted h)

-- a turn in which the seat makes a line, or none

pub gives_none : (n : ℕ) (v w : SharedView) → GrowsByNone v w → Continues maker_of n (lines v) (lines w)
gives_none n v w h = continues_by_none n (lines v) (lines w) h.0 h.1 h.2

pub gives_one : (n client : ℕ) (event : Event) (v w : SharedView) → n + 1 ≡ client → seat_for event ≡ Some (client - 1) → GrowsByOne v w event →
    Continues maker_of n (lines v) (lines w)
gives_one n client event v w number made h =
    continues_by_one n (lines v) (lines w) (Happened h.0) h.1 (ap seat_for h.2 ∙ made ∙ names_itself n client number)

module _ (old new : SeatModel Line) (v w : SharedView) (agrees : AgreesWith maker_of (lines v) old) (seen : new.seen ≡ lines w)
    (own : new.own ≡ made_by maker_of old.number (lines w)) where
  pub has_seen_more : GrowsByNone v w → HasSeenMore old new
  has_seen_more h = (
    subst (Begins old.seen) (sym seen) (begins_on old.seen (lines v) (lines w) agrees.0 (h.0, h.1)),
    own ∙ made_by_none old.number (lines v) (lines w) h.0 h.1 h.2 ∙ agrees.1,
  )

  pub has_made : (client : ℕ) (event : Event) → old.number + 1 ≡ client → seat_for event ≡ Some (client - 1) → GrowsByOne v w event →
      HasMade old new event
  has_made client event number made h = record {
    before = lines v;
    begins = agrees.0;
    entry = h.0;
    is = h.2;
    seen = seen ∙ h.1;
    own =
        own
        ∙ made_by_one old.number (lines v) (lines w) (Happened h.0) h.1 (ap seat_for h.2 ∙ made ∙ names_itself old.number client number)
        ∙ ap (λ l. l ++ Happened h.0 ∷ []) agrees.1;
  }

  pub halts : IsMarked w → HasHalted new.seen
  halts marked = subst HasHalted (sym seen) (is_halted w marked)

-- a client whose seat knows its answers has them in the whole list
pub has_its_answers : (seat : SeatModel Line) (client : ℕ) (v : SharedView) → IsIdleSeat seat client → AgreesWith maker_of (lines v) seat →
    v.halted ≡ false → HasItsAnswers client (lines v)
has_its_answers seat client v idle agrees running =
    let begins = begins_on idle.known seat.seen (lines v) idle.begins agrees.0 in
    let knows = idle.knows (λ h. isnt_halted v running (stays_halted seat.seen (lines v) agrees.0 h)) in
    let none =
    none_made_behind seat.number idle.known begins.0
    (ap (made_by maker_of seat.number) (sym begins.1) ∙ agrees.1 ∙ sym knows.own) in
    record {
      known = idle.known;
      begins = begins;
      all = ap (λ l. offers_by client (events_in l)) begins.1 ∙ same_offers seat.number client idle.numbered idle.known begins.0 none;
      answered = knows.answered;
    }

-- one turn behind another

pub sees_itself : (seat : SeatModel Line) → HasSeenMore seat seat
sees_itself seat = (([], sym (append-nil seat.seen)), refl)

pub stays_itself : (seat : SeatModel Line) → StaysSeat seat seat
stays_itself seat = (refl, refl, refl)

-- what it has seen goes on where it makes a line
pub made_begins : (old new : SeatModel Line) (event : Event) → HasMade old new event → Begins old.seen new.seen
made_begins old new event h = begins_on old.seen h.before new.seen h.begins (Happened h.entry ∷ [], h.seen)

pub as_long : {A : Type 0} (xs ys : List A) → Begins xs ys → length xs ≤ length ys
as_long xs ys h = omega (arith, ap length h.1, length-append xs h.0)

-- results that say more

pub err_more : {A E : Type 0} (r : Result A E) (P Q : Type 0) → (P → Q) → OnErr r P → OnErr r Q
err_more (Ok a) P Q f h = tt
err_more (Err e) P Q f h = f h

pub not_memory : {A : Type 0} (a : A) (P : Type 0) → (P → ◌≡◌ {A = Result A CallFault} (Ok a) (Err Memory)) → P → ⊥
not_memory a P f p = let e = f p in let never : ⊥ = cc in never
