-- The lines that a client's seat makes.
use Rattle.std.proofs.Common.{ℕ, ◌+◌, ◌-◌, ◌≤◌, ◌≡◌, ◌∙◌, refl, sym, ap, subst, arith, List, [], ◌∷◌, ◌++◌, drop, length, take}
use Rattle.std.proofs.Common.{append-nil, Bool, true, false, Contains, cond, eq-eqb, eqb-true, Option, Some, nat_eq}
use Rattle.std.proofs.lemmas.List.{append_cancel_left, take-append-drop}
use Rattle.std.proofs.lemmas.List.Elements.{All-from_recursion, filter-append}
use Rattle.spec_core.proofs.Members.{contains_first, contains_later, contains_none}
use Rattle.turn_lock.specs.Entries.{Continues, is_named, made_by}
use Rattle.rule_model.specs.declared.log.Entry.{Entry}
use Rattle.rule_model.specs.Events.{Event, event_of, pended, acted, replied, stalled, left}
use Rattle.session_closing.proofs.Members.{in_cases}
use Rattle.session_closing.proofs.Tests.{by_cases, on_either}
use Rattle.session_laws.specs.Answers.{offers_by}
use Rattle.session_board.specs.declared.line.Line.{Line}
use Rattle.session_board.specs.declared.line.Line.TheVariants.{Happened, Halted}
use Rattle.session_board.specs.Lines.{events_in, maker_of, seat_for}
use Rattle.session_board.proofs.Answering.{offers_by_behind}
use Rattle.session_board.proofs.Lists.{events_behind, longer_front}

-- one line more, which the seat makes

pub names_itself : (n client : ℕ) → n + 1 ≡ client → Some (client - 1) ≡ Some n
names_itself n client e = ap Some (omega (arith, e))

pub continues_by_one : (n : ℕ) (xs ys : List Line) (line : Line) → ys ≡ xs ++ line ∷ [] → maker_of line ≡ Some n → Continues maker_of n xs ys
continues_by_one n xs ys line grown made = (
  line ∷ [],
  grown,
  All-from_recursion (λ line. (k : ℕ) → maker_of line ≡ Some k → k ≡ n) (line ∷ [])
      (λ k is. let e : Some k ≡ Some n = sym is ∙ made in cc, tt),
)

one_made : (n : ℕ) (line : Line) → maker_of line ≡ Some n → made_by maker_of n (line ∷ []) ≡ line ∷ []
one_made n line made = ap (λ (o : Option ℕ). cond (is_named n o) (line ∷ []) []) made ∙ ap (λ b. cond b (line ∷ []) []) (eq-eqb n n refl)

pub made_by_one : (n : ℕ) (xs ys : List Line) (line : Line) → ys ≡ xs ++ line ∷ [] → maker_of line ≡ Some n →
    made_by maker_of n ys ≡ made_by maker_of n xs ++ line ∷ []
made_by_one n xs ys line grown made =
    ap (made_by maker_of n) grown ∙ filter-append (λ l. is_named n (maker_of l)) xs (line ∷ [])
    ∙ ap (λ l. made_by maker_of n xs ++ l) (one_made n line made)

-- the lines of the seat among those that go on from others

pub made_behind : (n : ℕ) (xs ys : List Line) → made_by maker_of n (xs ++ ys) ≡ made_by maker_of n xs ++ made_by maker_of n ys
made_behind n xs ys = filter-append (λ l. is_named n (maker_of l)) xs ys

-- where the seat has made all its lines in the first part, it has made none behind
pub none_made_behind : (n : ℕ) (xs ys : List Line) → made_by maker_of n (xs ++ ys) ≡ made_by maker_of n xs → made_by maker_of n ys ≡ []
none_made_behind n xs ys same =
    append_cancel_left (made_by maker_of n xs) (made_by maker_of n ys) []
    (sym (made_behind n xs ys) ∙ same ∙ sym (append-nil (made_by maker_of n xs)))

-- a client leaves by a line of its seat

is_it : (n client : ℕ) → n + 1 ≡ client → (line : Line) → (entry : Entry) → line ≡ Happened entry → event_of entry ≡ left client →
    is_named n (maker_of line) ≡ true
is_it n client e line entry is leaves =
    ap (λ (l : Line). is_named n (maker_of l)) is ∙ ap (λ (ev : Event). is_named n (seat_for ev)) leaves
    ∙ eq-eqb n (client - 1) (omega (arith, e))

pub left_is_own : (n client : ℕ) → n + 1 ≡ client → (lines : List Line) → Contains (events_in lines) (left client) →
    Contains (events_in (made_by maker_of n lines)) (left client)
left_is_own n client e [] h = absurd (contains_none (left client) h)
left_is_own n client e (Halted ∷ lines) h = left_is_own n client e lines h
left_is_own n client e (Happened entry ∷ lines) h =
    on_either (in_cases (event_of entry) (left client) (events_in lines) h)
    (λ leaves.
    subst (λ (b : Bool). Contains (events_in (cond b (Happened entry ∷ made_by maker_of n lines) (made_by maker_of n lines))) (left client))
    (sym (is_it n client e (Happened entry) entry refl leaves))
    (subst (λ ev. Contains (event_of entry ∷ events_in (made_by maker_of n lines)) ev) leaves
    (contains_first (event_of entry) (events_in (made_by maker_of n lines)))))
    (λ later. by_test (is_named n (seat_for (event_of entry))) (left_is_own n client e lines later))
  where
    by_test : (b : Bool) → Contains (events_in (made_by maker_of n lines)) (left client) →
        Contains (events_in (cond b (Happened entry ∷ made_by maker_of n lines) (made_by maker_of n lines))) (left client)
    by_test true k = contains_later (event_of entry) (left client) (events_in (made_by maker_of n lines)) k
    by_test false k = k

pub own_is_there : (n : ℕ) (lines : List Line) (event : Event) → Contains (events_in (made_by maker_of n lines)) event →
    Contains (events_in lines) event
own_is_there n [] event h = h
own_is_there n (Halted ∷ lines) event h = own_is_there n lines event h
own_is_there n (Happened entry ∷ lines) event h =
    by_test (is_named n (seat_for (event_of entry))) (own_is_there n lines event) h
  where
    by_test : (b : Bool) → (Contains (events_in (made_by maker_of n lines)) event → Contains (events_in lines) event) →
        Contains (events_in (cond b (Happened entry ∷ made_by maker_of n lines) (made_by maker_of n lines))) event →
        Contains (event_of entry ∷ events_in lines) event
    by_test true f k = on_either (in_cases (event_of entry) event (events_in (made_by maker_of n lines)) k)
        (λ is. subst (λ ev. Contains (event_of entry ∷ events_in lines) ev) is (contains_first (event_of entry) (events_in lines)))
        (λ later. contains_later (event_of entry) event (events_in lines) (f later))
    by_test false f k = contains_later (event_of entry) event (events_in lines) (f k)

-- an offer of a client is made by a line of its seat

no_offer_of : (n client : ℕ) → n + 1 ≡ client → (event : Event) → is_named n (seat_for event) ≡ false → offers_by client (event ∷ []) ≡ []
no_offer_of n client e (pended other number offer ask) h =
    by_cases (nat_eq other client)
    (λ same.
    let is = eqb-true other client same in
    let named : nat_eq n (other - 1) ≡ true = eq-eqb n (other - 1) (omega (arith, is, e)) in
    let never : ⊥ = cc in
    absurd never)
    (λ differ. ap (λ b. cond b (record { client = other; number = number; offer = offer; ask = ask } ∷ []) []) differ)
no_offer_of n client e (acted action d by) h = refl
no_offer_of n client e (replied other number answer) h = refl
no_offer_of n client e (stalled names) h = refl
no_offer_of n client e (left other) h = refl

pub no_offers_of : (n client : ℕ) → n + 1 ≡ client → (lines : List Line) → made_by maker_of n lines ≡ [] → offers_by client (events_in lines) ≡ []
no_offers_of n client e [] none = refl
no_offers_of n client e (Halted ∷ lines) none = no_offers_of n client e lines none
no_offers_of n client e (Happened entry ∷ lines) none =
    by_test (is_named n (seat_for (event_of entry))) refl (no_offers_of n client e lines) none
  where
    by_test : (b : Bool) → is_named n (seat_for (event_of entry)) ≡ b →
        (made_by maker_of n lines ≡ [] → offers_by client (events_in lines) ≡ []) →
        cond b (Happened entry ∷ made_by maker_of n lines) (made_by maker_of n lines) ≡ [] →
        offers_by client (event_of entry ∷ events_in lines) ≡ []
    by_test true is f k = let never : ⊥ = cc in absurd never
    by_test false is f k =
        offers_by_behind client (event_of entry ∷ []) (events_in lines)
        ∙ ap (λ l. l ++ offers_by client (events_in lines)) (no_offer_of n client e (event_of entry) is) ∙ f k

-- where the client's seat has made none of the further lines, its offers are the same
pub same_offers : (n client : ℕ) → n + 1 ≡ client → (xs ys : List Line) → made_by maker_of n ys ≡ [] →
    offers_by client (events_in (xs ++ ys)) ≡ offers_by client (events_in xs)
same_offers n client e xs ys none =
    ap (offers_by client) (events_behind xs ys) ∙ offers_by_behind client (events_in xs) (events_in ys)
    ∙ ap (λ l. offers_by client (events_in xs) ++ l) (no_offers_of n client e ys none) ∙ append-nil (offers_by client (events_in xs))

-- where the seat has made none of some lines, it has made none of their front
pub none_made_in_front : (n k : ℕ) (lines : List Line) → made_by maker_of n lines ≡ [] → made_by maker_of n (take k lines) ≡ []
none_made_in_front n k lines none =
    first_empty (made_by maker_of n (take k lines)) (made_by maker_of n (drop k lines))
    (sym (made_behind n (take k lines) (drop k lines)) ∙ ap (made_by maker_of n) (take-append-drop k lines) ∙ none)
  where
    first_empty : (xs ys : List Line) → xs ++ ys ≡ [] → xs ≡ []
    first_empty [] ys e = refl
    first_empty (x ∷ xs) ys e = let never : ⊥ = cc in absurd never

-- where the seat has made none of the further lines, a longer front has just those that it has made
pub front_made : (n k : ℕ) (xs ys : List Line) → length xs ≤ k → made_by maker_of n (xs ++ ys) ≡ made_by maker_of n xs →
    made_by maker_of n (take k (xs ++ ys)) ≡ made_by maker_of n xs
front_made n k xs ys most same =
    let none = none_made_in_front n (k - length xs) ys (none_made_behind n xs ys same) in
    ap (made_by maker_of n) (longer_front k xs ys most) ∙ made_behind n xs (take (k - length xs) ys)
    ∙ ap (λ l. made_by maker_of n xs ++ l) none ∙ append-nil (made_by maker_of n xs)
