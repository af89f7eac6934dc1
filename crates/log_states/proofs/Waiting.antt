-- Pending offers: which are there, and which a list names.
use Rattle.std.proofs.Common.{ℕ, suc, zero, ◌+◌, ◌<◌, ◌≡◌, ◌↔◌, ◌∙◌, refl, sym, ap, subst, arith, List, [], ◌∷◌, ◌++◌, map, length, if◌then◌else◌, Contains, Bool, true, false, nat_eq, nat_lt, ◌⊎◌, inl, inr, not, ◌&&◌, ◌||◌}
use Rattle.std.proofs.lemmas.Bool.{eqb-true, eq-eqb, ltb-true, lt-ltb, and_from, and_parts, or_cases, not_from_false, or_left, not-true, or_right, true≢false}
use Rattle.std.specs.List.{slice_index}
use Rattle.std.specs.List.Sorted.{IsStrictlyIncreasing}
use Rattle.rule_model.specs.declared.offer.Offer.{Offer}
use Rattle.rule_model.specs.Events.{OfferName}
use Rattle.rule_model.specs.Legal.{IsPendingAnd, IsPending, IsIdle, NamesAll}
use Rattle.std.proofs.lemmas.List.{map-append}
use Rattle.spec_core.proofs.Members.{contains_first, contains_later, contains_none}
use Rattle.rule_model.specs.States.{PendingOffer, State, without}
use Rattle.log_states.specs.Views.{pending_of}
use Rattle.log_states.specs.declared.pending.Pending.{Pending}
use Rattle.log_states.specs.Pending.{waits_among, is_idle_among, WaitsAnd, is_named, names_all, names_only, comes_before, is_ascending}
use Rattle.log_states.proofs.Members.{in_cases}
use Rattle.log_states.proofs.Tests.{by_cases, on_either}

-- an offer of this client and number, of which the fact holds

pub record IsAmong (P : Offer → Type 0) (ps : List PendingOffer) (client number : ℕ) : Type 0 where
  pub waits : PendingOffer
  pub among : Contains ps waits
  pub client_is : waits.client ≡ client
  pub number_is : waits.number ≡ number
  pub holds : P waits.offer

pub waits_there : (P : Offer → Type 0) (ps : List PendingOffer) (client number : ℕ) → WaitsAnd P ps client number → IsAmong P ps client number
waits_there P [] client number h = absurd h
waits_there P (p ∷ ps) client number (inl h) = record { waits = p; among = contains_first p ps; client_is = h.0; number_is = h.1; holds = h.2 }
waits_there P (p ∷ ps) client number (inr h) =
    let k = waits_there P ps client number h in
    record { waits = k.waits; among = contains_later p k.waits ps k.among; client_is = k.client_is; number_is = k.number_is; holds = k.holds }

found : (P : Offer → Type 0) (ps : List PendingOffer) (client number : ℕ) (q : PendingOffer) → Contains ps q → q.client ≡ client → q.number ≡ number → P q.offer → WaitsAnd P ps client number
found P [] client number q h e f g = absurd (contains_none q h)
found P (p ∷ ps) client number q h e f g = on_either (in_cases p q ps h)
    (λ k. inl (ap (λ z. z.client) k ∙ e, ap (λ z. z.number) k ∙ f, subst (λ z. P z.offer) (sym k) g))
    (λ k. inr (found P ps client number q k e f g))

pub there_waits : (P : Offer → Type 0) (ps : List PendingOffer) (client number : ℕ) → IsAmong P ps client number → WaitsAnd P ps client number
there_waits P ps client number h = found P ps client number h.waits h.among h.client_is h.number_is h.holds

pub pending_and : (P : Offer → Type 0) (s : State) (name : OfferName) → IsAmong P s.pending name.0 name.1 → IsPendingAnd s name P
pending_and P s name h = record { waits = h.waits; among = h.among; client = h.client_is; number = h.number_is; holds = h.holds }

pub and_pending : (P : Offer → Type 0) (s : State) (name : OfferName) → IsPendingAnd s name P → IsAmong P s.pending name.0 name.1
and_pending P s name h = record { waits = h.waits; among = h.among; client_is = h.client; number_is = h.number; holds = h.holds }

abbrev pub Any : Offer → Type 0
Any offer = Unit {0}

pub waits_any : (ps : List PendingOffer) (client number : ℕ) → waits_among ps client number ≡ true → WaitsAnd Any ps client number
waits_any [] client number h = absurd (cc)
waits_any (p ∷ ps) client number h = on_either (or_cases (nat_eq p.client client && nat_eq p.number number) (waits_among ps client number) h)
    (λ k. let m = and_parts (nat_eq p.client client) (nat_eq p.number number) k in inl (eqb-true p.client client m.0, eqb-true p.number number m.1, tt))
    (λ k. inr (waits_any ps client number k))

pub any_waits : (ps : List PendingOffer) (client number : ℕ) → WaitsAnd Any ps client number → waits_among ps client number ≡ true
any_waits [] client number h = absurd h
any_waits (p ∷ ps) client number (inl h) =
    or_left (nat_eq p.client client && nat_eq p.number number) (waits_among ps client number)
    (and_from (nat_eq p.client client) (nat_eq p.number number) (eq-eqb p.client client h.0) (eq-eqb p.number number h.1))
any_waits (p ∷ ps) client number (inr h) = or_right (nat_eq p.client client && nat_eq p.number number) (waits_among ps client number) (any_waits ps client number h)

-- a client without a pending offer

pub idle : (ps : List PendingOffer) (client : ℕ) → is_idle_among ps client ≡ true → (p : PendingOffer) → Contains ps p → p.client ≡ client → ⊥
idle [] client h p k e = contains_none p k
idle (q ∷ ps) client h p k e =
    let m = and_parts (not (nat_eq q.client client)) (is_idle_among ps client) h in
    on_either (in_cases q p ps k)
    (λ f. absurd (true≢false (sym (eq-eqb q.client client (ap (λ z. z.client) f ∙ e)) ∙ not-true (nat_eq q.client client) m.0)))
    (λ f. idle ps client m.1 p f e)

pub is_idle : (ps : List PendingOffer) (client : ℕ) → ((p : PendingOffer) → Contains ps p → p.client ≡ client → ⊥) → is_idle_among ps client ≡ true
is_idle [] client h = refl
is_idle (q ∷ ps) client h =
    and_from (not (nat_eq q.client client)) (is_idle_among ps client)
    (by_cases (nat_eq q.client client) (λ e. absurd (h q (contains_first q ps) (eqb-true q.client client e))) (λ e. not_from_false (nat_eq q.client client) e))
    (is_idle ps client (λ p k e. h p (contains_later q p ps k) e))

-- a client that isn't idle
pub waits_some : (ps : List PendingOffer) (client : ℕ) → is_idle_among ps client ≡ false → (number : ℕ) × IsAmong Any ps client number
waits_some [] client h = absurd (cc)
waits_some (q ∷ ps) client h = by_cases (nat_eq q.client client)
    (λ e. (q.number, record { waits = q; among = contains_first q ps; client_is = eqb-true q.client client e; number_is = refl; holds = tt }))
    (λ e.
    let k = waits_some ps client (sym (ap (λ z. not z && is_idle_among ps client) e) ∙ h) in
    (k.0, record { waits = k.1.waits; among = contains_later q k.1.waits ps k.1.among; client_is = k.1.client_is; number_is = k.1.number_is; holds = tt }))

-- lists of names

pub named : (names : List OfferName) (client number : ℕ) → is_named names client number ≡ true → Contains names (client, number)
named [] client number h = absurd (cc)
named (name ∷ names) client number h = on_either (or_cases (nat_eq name.0 client && nat_eq name.1 number) (is_named names client number) h)
    (λ k.
    let m = and_parts (nat_eq name.0 client) (nat_eq name.1 number) k in
    let a = eqb-true name.0 client m.0 in
    let b = eqb-true name.1 number m.1 in
    subst (λ z. Contains (name ∷ names) z) (λ i. (a i, b i)) (contains_first name names))
    (λ k. contains_later name (client, number) names (named names client number k))

pub contained_named : (names : List OfferName) (client number : ℕ) → Contains names (client, number) → is_named names client number ≡ true
contained_named [] client number h = absurd (contains_none _ h)
contained_named (name ∷ names) client number h = on_either (in_cases name (client, number) names h)
    (λ e. or_left (nat_eq name.0 client && nat_eq name.1 number) (is_named names client number)
    (and_from (nat_eq name.0 client) (nat_eq name.1 number) (eq-eqb name.0 client (ap (λ z. z.0) e)) (eq-eqb name.1 number (ap (λ z. z.1) e))))
    (λ k. or_right (nat_eq name.0 client && nat_eq name.1 number) (is_named names client number) (contained_named names client number k))

pub all_named : (names : List OfferName) (ps : List PendingOffer) → names_all names ps ≡ true → (p : PendingOffer) → Contains ps p → Contains names (p.client, p.number)
all_named names [] h p k = absurd (contains_none p k)
all_named names (q ∷ ps) h p k =
    let m = and_parts (is_named names q.client q.number) (names_all names ps) h in
    on_either (in_cases q p ps k)
    (λ e. subst (λ z. Contains names (z.client, z.number)) e (named names q.client q.number m.0))
    (λ f. all_named names ps m.1 p f)

pub named_all : (names : List OfferName) (ps : List PendingOffer) → ((p : PendingOffer) → Contains ps p → Contains names (p.client, p.number)) → names_all names ps ≡ true
named_all names [] h = refl
named_all names (q ∷ ps) h =
    and_from (is_named names q.client q.number) (names_all names ps) (contained_named names q.client q.number (h q (contains_first q ps))) (named_all names ps (λ p k. h p (contains_later q p ps k)))

pub only_named : (names : List OfferName) (ps : List PendingOffer) → names_only names ps ≡ true → (name : OfferName) → Contains names name → WaitsAnd Any ps name.0 name.1
only_named [] ps h name k = absurd (contains_none name k)
only_named (n ∷ names) ps h name k =
    let m = and_parts (waits_among ps n.0 n.1) (names_only names ps) h in
    on_either (in_cases n name names k)
    (λ e. subst (λ z. WaitsAnd Any ps z.0 z.1) e (waits_any ps n.0 n.1 m.0))
    (λ f. only_named names ps m.1 name f)

pub named_only : (names : List OfferName) (ps : List PendingOffer) → ((name : OfferName) → Contains names name → WaitsAnd Any ps name.0 name.1) → names_only names ps ≡ true
named_only [] ps h = refl
named_only (n ∷ names) ps h =
    and_from (waits_among ps n.0 n.1) (names_only names ps) (any_waits ps n.0 n.1 (h n (contains_first n names))) (named_only names ps (λ name k. h name (contains_later n name names k)))

-- ascending clients

abbrev pub clients_of : List OfferName → List ℕ
clients_of names = map (λ (name : OfferName). name.0) names

pub ascending : (names : List OfferName) → is_ascending names ≡ true → IsStrictlyIncreasing (clients_of names)
ascending [] h k below = absurd (omega (arith, below))
ascending (n ∷ []) h k below = absurd (omega (arith, below))
ascending (n ∷ m ∷ names) h zero below = ltb-true n.0 m.0 (and_parts (nat_lt n.0 m.0) (is_ascending (m ∷ names)) h).0
ascending (n ∷ m ∷ names) h (suc k) below =
    let e : suc (k + 1) ≡ suc k + 1 = omega arith in
    let later = ascending (m ∷ names) (and_parts (nat_lt n.0 m.0) (is_ascending (m ∷ names)) h).1 k (omega (arith, below)) in
    subst (λ z. slice_index (clients_of (n ∷ m ∷ names)) (suc k) < slice_index (clients_of (n ∷ m ∷ names)) z) e later

pub increasing_ascends : (names : List OfferName) → IsStrictlyIncreasing (clients_of names) → is_ascending names ≡ true
increasing_ascends [] h = refl
increasing_ascends (n ∷ []) h = refl
increasing_ascends (n ∷ m ∷ names) h =
    and_from (nat_lt n.0 m.0) (is_ascending (m ∷ names)) (lt-ltb n.0 m.0 (h zero (omega arith))) (increasing_ascends (m ∷ names) (λ k below.
    let e : suc k + 1 ≡ suc (k + 1) = omega arith in
    subst (λ z. slice_index (clients_of (n ∷ m ∷ names)) (suc k) < slice_index (clients_of (n ∷ m ∷ names)) z) e (h (suc k) (omega (arith, below)))))

-- the other pending offers, one more at a time

pub without_both : (name : OfferName) (ps qs : List PendingOffer) → without name (ps ++ qs) ≡ without name ps ++ without name qs
without_both name [] qs = refl
without_both name (p ∷ ps) qs = by_cases (nat_eq p.client name.0 && nat_eq p.number name.1)
    (λ e. dropped p (ps ++ qs) e ∙ without_both name ps qs ∙ sym (ap (λ z. z ++ without name qs) (dropped p ps e)))
    (λ e. kept p (ps ++ qs) e ∙ ap (λ z. p ∷ z) (without_both name ps qs) ∙ sym (ap (λ z. z ++ without name qs) (kept p ps e)))
  where
    dropped : (p : PendingOffer) (qs : List PendingOffer) → nat_eq p.client name.0 && nat_eq p.number name.1 ≡ true → without name (p ∷ qs) ≡ without name qs
    dropped p qs e = ap (λ b. if not b then p ∷ without name qs else without name qs) e

    kept : (p : PendingOffer) (qs : List PendingOffer) → nat_eq p.client name.0 && nat_eq p.number name.1 ≡ false → without name (p ∷ qs) ≡ p ∷ without name qs
    kept p qs e = ap (λ b. if not b then p ∷ without name qs else without name qs) e

pub without_next : (name : OfferName) (xs ys : List Pending) (x : Pending) (done new : List PendingOffer) → ys ≡ xs ++ x ∷ [] → done ≡ without name (map pending_of xs) →
    new ≡ done ++ without name (pending_of x ∷ []) → new ≡ without name (map pending_of ys)
without_next name xs ys x done new e f g =
    g ∙ ap (λ z. z ++ without name (pending_of x ∷ [])) f ∙ sym (without_both name (map pending_of xs) (pending_of x ∷ []))
    ∙ ap (without name) (sym (map-append pending_of xs (x ∷ []))) ∙ ap (λ z. without name (map pending_of z)) (sym e)
