-- The numbers of open clients rise.
use Rattle.std.proofs.Common.{ℕ, zero, suc, ◌+◌, ◌≤◌, ◌<◌, ◌≡◌, ◌∙◌, refl, sym, ap, subst}
use Rattle.std.proofs.Common.{arith, List, [], ◌∷◌, Bool, true, false, Contains, filter, not, nat_eq, if◌then◌else◌, get_or}
use Rattle.std.proofs.lemmas.Bool.{eq-eqb, eqb-true}
use Rattle.std.specs.List.Sorted.{IsStrictlyIncreasing}
use Rattle.spec_core.specs.Code.{Program}
use Rattle.spec_core.proofs.Members.{contains_first, contains_none}
use Rattle.rule_model.specs.Events.{Event, pended, acted, replied, stalled, left}
use Rattle.rule_model.specs.Legal.{IsDerivation, IsPossible}
use Rattle.rule_model.specs.States.{State}
use Rattle.log_states.specs.Clients.{numbers_from}
use Rattle.log_states.proofs.Members.{in_cases}
use Rattle.log_states.proofs.Tests.{by_cases, on_either}

-- numbers from `first` on, each below the next one, and all below `past`
abbrev pub Rise : ℕ → ℕ → List ℕ → Type 0
Rise first past [] = Unit {0}
Rise first past (k ∷ ks) = (first ≤ k) × (k < past) × Rise (k + 1) past ks

rise_sooner : (early first past : ℕ) (ks : List ℕ) → early ≤ first → Rise first past ks → Rise early past ks
rise_sooner early first past [] l h = tt
rise_sooner early first past (k ∷ ks) l h = (let least = h.0 in omega (arith, l, least), h.1, h.2)

rise_among : (p : ℕ → Bool) (first past : ℕ) (ks : List ℕ) → Rise first past ks → Rise first past (filter p ks)
rise_among p first past [] h = tt
rise_among p first past (k ∷ ks) h = by_test (p k) (rise_among p (k + 1) past ks h.2)
  where
    by_test : (b : Bool) → Rise (k + 1) past (filter p ks) → Rise first past (if b then k ∷ filter p ks else filter p ks)
    by_test true rest = (h.0, h.1, rest)
    by_test false rest = rise_sooner first (k + 1) past (filter p ks) (let least = h.0 in omega (arith, least)) rest

numbers_rise : (first count past : ℕ) → past ≡ first + count → Rise first past (numbers_from first count)
numbers_rise first zero past e = tt
numbers_rise first (suc count) past e =
    (omega arith, omega (arith, e), numbers_rise (first + 1) count past (omega (arith, e)))

-- who is open rises all along a log
module _ (program : Program) (first past : ℕ) where
  abbrev OpenRise : State → Type 0
  OpenRise s = Rise first past s.open_clients

  rise_after : (s t : State) (e : Event) → IsPossible program s e t → OpenRise s → OpenRise t
  rise_after s t (pended client number offer ask) h rise = subst OpenRise (sym h.4) rise
  rise_after s t (acted action d by) h rise = subst OpenRise (sym h.3) rise
  rise_after s t (replied client number answer) h rise = subst OpenRise (sym h.2) rise
  rise_after s t (stalled names) h rise = subst OpenRise (sym h.2) rise
  rise_after s t (left client) h rise =
      subst OpenRise (sym h.2) (rise_among (λ other. not (nat_eq other client)) first past s.open_clients rise)

  rise_by_log : (log : List Event) (s t : State) → IsDerivation program log s t → OpenRise s → OpenRise t
  rise_by_log [] s t h rise = subst OpenRise (sym h) rise
  rise_by_log (e ∷ log) s t (next, possible, h) rise = rise_by_log log next t h (rise_after s next e possible rise)

-- numbers that rise increase
pub increases : (first past : ℕ) (ks : List ℕ) → Rise first past ks → IsStrictlyIncreasing ks
increases first past [] h k below = absurd (omega (arith, below))
increases first past (x ∷ []) h k below = absurd (omega (arith, below))
increases first past (x ∷ y ∷ ks) h zero below = let least = h.2.0 in omega (arith, least)
increases first past (x ∷ y ∷ ks) h (suc k) below =
    let e : suc (k + 1) ≡ suc k + 1 = omega arith in
    subst (λ n. get_or (y ∷ ks) k 0 < get_or (x ∷ y ∷ ks) n 0) e (increases (x + 1) past (y ∷ ks) h.2 k (omega (arith, below)))

-- the first one that may be there

abbrev pub others : ℕ → List ℕ → List ℕ
others n ks = filter (λ other. not (nat_eq other n)) ks

all_others : (n first past : ℕ) (ks : List ℕ) → n < first → Rise first past ks → others n ks ≡ ks
all_others n first past [] l h = refl
all_others n first past (k ∷ ks) l h = by_cases (nat_eq k n)
    (λ e. let same = eqb-true k n e in let least = h.0 in absurd (omega (arith, same, least, l)))
    (λ e. ap (λ b. if not b then k ∷ others n ks else others n ks) e
    ∙ ap (λ l. k ∷ l) (all_others n (k + 1) past ks (let least = h.0 in omega (arith, least, l)) h.2))

not_below : (n first past : ℕ) (ks : List ℕ) → n < first → Rise first past ks → Contains ks n → ⊥
not_below n first past [] l h among = contains_none n among
not_below n first past (k ∷ ks) l h among =
    on_either (in_cases k n ks among)
    (λ same. let least = h.0 in omega (arith, same, least, l))
    (λ later. not_below n (k + 1) past ks (let least = h.0 in omega (arith, least, l)) h.2 later)

-- where it is there, it is the first, and the others are behind it
pub begins_with : (n past : ℕ) (ks : List ℕ) → Rise n past ks → Contains ks n → (ks ≡ n ∷ others n ks) × Rise (n + 1) past (others n ks)
begins_with n past [] h among = absurd (contains_none n among)
begins_with n past (k ∷ ks) h among = by_cases (nat_eq k n)
    (λ e.
    let same = eqb-true k n e in
    let rest : others n ks ≡ ks = all_others n (k + 1) past ks (omega (arith, same)) h.2 in
    let behind : others n (k ∷ ks) ≡ ks = ap (λ b. if not b then k ∷ others n ks else others n ks) e ∙ rest in (
      ap (λ x. x ∷ ks) same ∙ ap (λ l. n ∷ l) (sym behind),
      subst (Rise (n + 1) past) (sym behind) (rise_sooner (n + 1) (k + 1) past ks (omega (arith, same)) h.2),
    ))
    (λ e. absurd (on_either (in_cases k n ks among)
    (λ same. true_isnt_false (sym (eq-eqb k n same) ∙ e))
    (λ later. not_below n (k + 1) past ks (let least = h.0 in omega (arith, least)) h.2 later)))
  where
    true_isnt_false : true ≡ false → ⊥
    true_isnt_false e = cc

-- where it isn't, all are behind it
pub begins_later : (n past : ℕ) (ks : List ℕ) → Rise n past ks → (Contains ks n → ⊥) → Rise (n + 1) past ks
begins_later n past [] h out = tt
begins_later n past (k ∷ ks) h out =
    let differ : k ≡ n → ⊥ = λ e. out (subst (λ z. Contains (k ∷ ks) z) e (contains_first k ks)) in
    let least = h.0 in
    (omega (arith, least, differ), h.1, h.2)

pub none_rise : (first past : ℕ) (ks : List ℕ) → past ≤ first → Rise first past ks → ks ≡ []
none_rise first past [] l h = refl
none_rise first past (k ∷ ks) l h = let least = h.0 in let most = h.1 in absurd (omega (arith, l, least, most))

-- the open clients of a session rise from 1 on
pub open_rise : (program : Program) (clients : ℕ) (log : List Event) (s t : State) → s.open_clients ≡ numbers_from 1 clients →
    IsDerivation program log s t → Rise 1 (clients + 1) t.open_clients
open_rise program clients log s t e h =
    rise_by_log program 1 (clients + 1) log s t h
    (subst (Rise 1 (clients + 1)) (sym e) (numbers_rise 1 clients (clients + 1) (omega arith)))
