-- What clients have wished, by the lines that they have made.
use Rattle.std.proofs.Common.{ℕ, zero, suc, ◌+◌, ◌<◌, ◌≤◌, ◌≡◌, ◌∙◌, refl, sym, ap, subst, arith, List, [], ◌∷◌, ◌++◌, map, append-nil}
use Rattle.std.proofs.Common.{Contains, Bool, true, false, nat_eq, cond, inl, inr, get_or, take, length, append_assoc}
use Rattle.std.proofs.lemmas.List.{map-append}
use Rattle.std.proofs.lemmas.Bool.{eq-eqb}
use Rattle.std.proofs.lemmas.List.Elements.{Contains-push_cases}
use Rattle.rule_model.specs.declared.log.Entry.{Entry}
use Rattle.rule_model.specs.declared.offer.Offer.{Offer}
use Rattle.rule_model.specs.Answers.{Answer}
use Rattle.rule_model.specs.Events.{Event, event_of, pended, acted, replied, stalled, left}
use Rattle.rule_model.specs.States.{PendingOffer}
use Rattle.rule_model.specs.Wishes.{Wish}
use Rattle.log_states.proofs.Tests.{on_either}
use Rattle.spec_core.specs.Lists.{Each, IsOneOf}
use Rattle.spec_core.proofs.Members.{contains_one, contains_none}
use Rattle.spec_core.proofs.Lists.{take_next}
use Rattle.session_laws.specs.Answers.{offers_by}
use Rattle.rule_model.specs.declared.wish.ClientWish.{ClientWish}
use Rattle.rule_model.specs.WishViews.{wish_of}
use Rattle.session_laws.specs.Wishes.{wish_in, wishes_by}
use Rattle.session_laws.proofs.OneClient.{wishes_behind}
use Rattle.session_board.specs.declared.line.Line.{Line}
use Rattle.session_board.specs.declared.line.Line.TheVariants.{Happened, Halted}
use Rattle.session_board.specs.Lines.{events_in}
use Rattle.session.specs.Passes.{PassView, HasLeft, KnowsAnswer, KnowsLeave, SamePass}
use Rattle.session.specs.Sessions.{SessionView, IsClientOf}
use Rattle.session_threads.specs.Rows.{wishes_made, FitSession}

-- what happened by a line behind others
events_then : (xs : List Line) (entry : Entry) → events_in (xs ++ Happened entry ∷ []) ≡ events_in xs ++ event_of entry ∷ []
events_then [] entry = refl
events_then (Happened other ∷ xs) entry = ap (λ l. event_of other ∷ l) (events_then xs entry)
events_then (Halted ∷ xs) entry = events_then xs entry

-- one offer of the client
own_offer : (client number : ℕ) (offer : Offer) (ask : Bool) →
    wishes_by client (pended client number offer ask ∷ []) ≡ record { offer = offer; ask = ask } ∷ []
own_offer client number offer ask =
    ap (λ b. map wish_in (cond b (record { client = client; number = number; offer = offer; ask = ask } ∷ []) [])) (eq-eqb client client refl)

no_leave : (client number k : ℕ) (offer : Offer) (ask : Bool) → pended client number offer ask ≡ left k → ⊥
no_leave client number k offer ask e = cc

-- a client that has one more answer hasn't left
pub stays_on : (p q : PassView) (offer : Offer) (ask : Bool) (answer : Answer) → KnowsAnswer p offer ask answer q → SamePass p q →
    (HasLeft p → ⊥) → HasLeft q → ⊥
stays_on p q offer ask answer k same stays h =
    let e : events_in q.own ≡ events_in p.own ++ pended p.client k.number offer ask ∷ [] =
    ap events_in k.own ∙ events_then p.own k.entry ∙ ap (λ event. events_in p.own ++ event ∷ []) k.offered in
    let there : Contains (events_in p.own ++ pended p.client k.number offer ask ∷ []) (left p.client) =
    subst (λ l. Contains l (left p.client)) e (subst (λ c. Contains (events_in q.own) (left c)) same.1 h) in
    on_either (Contains-push_cases (events_in p.own) (pended p.client k.number offer ask) (left p.client) there) stays
    (no_leave p.client k.number p.client offer ask)

-- and has wished this offer, too
pub one_wish_more : (p q : PassView) (offer : Offer) (ask : Bool) (answer : Answer) → KnowsAnswer p offer ask answer q → SamePass p q →
    wishes_made q ≡ wishes_made p ++ record { offer = offer; ask = ask } ∷ []
one_wish_more p q offer ask answer k same =
    ap (λ c. wishes_by c (events_in q.own)) same.1
    ∙ ap (λ l. wishes_by p.client (events_in l)) k.own
    ∙ ap (wishes_by p.client) (events_then p.own k.entry)
    ∙ ap (λ event. wishes_by p.client (events_in p.own ++ event ∷ [])) k.offered
    ∙ wishes_behind p.client (events_in p.own) (pended p.client k.number offer ask ∷ [])
    ∙ ap (λ l. wishes_made p ++ l) (own_offer p.client k.number offer ask)

last_of : (xs : List Event) (e : Event) → IsOneOf e (xs ++ e ∷ [])
last_of [] e = inl refl
last_of (x ∷ xs) e = inr (last_of xs e)

-- a client that leaves has left
pub leaves_now : (p q : PassView) → KnowsLeave p q → SamePass p q → HasLeft q
leaves_now p q k same =
    let e : events_in q.own ≡ events_in p.own ++ left p.client ∷ [] =
    ap events_in k.own ∙ events_then p.own k.entry ∙ ap (λ event. events_in p.own ++ event ∷ []) k.leaves in
    subst (λ c. Contains (events_in q.own) (left c)) (sym same.1)
    (subst (λ l. Contains l (left p.client)) (sym e)
    (contains_one (left p.client) (events_in p.own ++ left p.client ∷ []) (last_of (events_in p.own) (left p.client))))

-- and wishes nothing by that
pub wishes_no_more : (p q : PassView) → KnowsLeave p q → SamePass p q → wishes_made q ≡ wishes_made p
wishes_no_more p q k same =
    ap (λ c. wishes_by c (events_in q.own)) same.1
    ∙ ap (λ l. wishes_by p.client (events_in l)) k.own
    ∙ ap (wishes_by p.client) (events_then p.own k.entry)
    ∙ ap (λ event. wishes_by p.client (events_in p.own ++ event ∷ [])) k.leaves
    ∙ wishes_behind p.client (events_in p.own) (left p.client ∷ [])
    ∙ append-nil (wishes_made p)

-- a client that has made no line hasn't left, and has wished nothing
pub new_stays : (p : PassView) → p.own ≡ [] → HasLeft p → ⊥
new_stays p none h = contains_none (left p.client) (subst (λ l. Contains (events_in l) (left p.client)) none h)

pub nothing_wished : (p : PassView) → p.own ≡ [] → wishes_made p ≡ []
nothing_wished p none = ap (λ l. wishes_by p.client (events_in l)) none

-- the same client
pub same_client : (s : SessionView) (p q : PassView) → IsClientOf s p → SamePass p q → IsClientOf s q
same_client s p q ours same = record {
  lock = same.0 ∙ ours.lock;
  first = subst (λ k. 1 ≤ k) (sym same.1) ours.first;
  last = subst (λ k. k ≤ s.lock.fixed.clients) (sym same.1) ours.last;
}

-- what holds of each of several lists, and something else that does

both_hold : {A : Type 0} (P Q : A → Type 0) (xs : List A) → Each P xs → Each Q xs → Each (λ x. P x × Q x) xs
both_hold P Q [] h k = tt
both_hold P Q (x ∷ xs) h k = ((h.0, k.0), both_hold P Q xs h.1 k.1)

pub all_hold : {A : Type 0} (P Q : A → Type 0) (lists : List (List A)) → Each (Each P) lists → Each (Each Q) lists →
    Each (Each (λ x. P x × Q x)) lists
all_hold P Q [] h k = tt
all_hold P Q (xs ∷ lists) h k = (both_hold P Q xs h.0 k.0, all_hold P Q lists h.1 k.1)

-- one of the wishes
pub wish_fits : (s : SessionView) (wishes : List ClientWish) (i : ℕ) (wish : ClientWish) → FitSession s (map wish_of wishes) →
    i < length wishes → wish ≡ get_or wishes i wish → FitSession s (wish_of wish ∷ [])
wish_fits s [] i wish fit below at = absurd (omega (arith, below))
wish_fits s (w ∷ wishes) zero wish fit below at = subst (λ (x : ClientWish). FitSession s (wish_of x ∷ [])) (sym at) (fit.0, tt)
wish_fits s (w ∷ wishes) (suc i) wish fit below at = wish_fits s wishes i wish fit.1 (omega (arith, below)) at

-- one wish more of those that are made
pub made_more : (wishes : List ClientWish) (i : ℕ) (wish : ClientWish) (before now next : List Wish) → i < length wishes →
    wish ≡ get_or wishes i wish → now ≡ before ++ map wish_of (take i wishes) → next ≡ now ++ wish_of wish ∷ [] →
    next ≡ before ++ map wish_of (take (i + 1) wishes)
made_more wishes i wish before now next below at done one =
    one ∙ ap (λ l. l ++ wish_of wish ∷ []) done
    ∙ append_assoc before (map wish_of (take i wishes)) (wish_of wish ∷ [])
    ∙ ap (λ l. before ++ l)
    (sym (map-append wish_of (take i wishes) (wish ∷ [])) ∙ ap (map wish_of) (sym (take_next wishes i wish below at)))
