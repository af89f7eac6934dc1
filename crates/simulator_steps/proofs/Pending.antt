-- The pending offer of the one client.
use Rattle.std.proofs.Common.{ℕ, ◌≡◌, ◌∙◌, refl, sym, ap, subst, List, [], ◌∷◌, ◌++◌, Bool, cond, not, nat_eq, Contains}
use Rattle.std.proofs.lemmas.Bool.{and_from, eq-eqb}
use Rattle.spec_core.proofs.Members.{contains_first, contains_none}
use Rattle.rule_model.specs.declared.offer.Offer.{Offer}
use Rattle.rule_model.specs.Legal.{IsPending}
use Rattle.rule_model.specs.States.{PendingOffer, State, after_offer, without}

abbrev pub pending_one : ℕ → Offer → Bool → PendingOffer
pending_one n offer ask = record { client = 1; number = n; offer = offer; ask = ask }

-- where none was pending, it is the only one
pub alone : (s t : State) (n : ℕ) (offer : Offer) (ask : Bool) → s.pending ≡ [] → t ≡ after_offer s 1 n offer ask →
    t.pending ≡ pending_one n offer ask ∷ []
alone s t n offer ask none e =
    ap (λ (z : State). z.pending) e ∙ ap (λ (ps : List PendingOffer). ps ++ pending_one n offer ask ∷ []) none

pub among_alone : (ps : List PendingOffer) (p : PendingOffer) → ps ≡ p ∷ [] → Contains ps p
among_alone ps p e = subst (λ (l : List PendingOffer). Contains l p) (sym e) (contains_first p [])

-- without it none is left
pub none_left : (n : ℕ) (offer : Offer) (ask : Bool) → without (1, n) (pending_one n offer ask ∷ []) ≡ []
none_left n offer ask =
    ap (λ (b : Bool). cond (not b) (pending_one n offer ask ∷ []) [])
    (and_from (nat_eq 1 1) (nat_eq n n) (eq-eqb 1 1 refl) (eq-eqb n n refl))

pub none_behind : (ps : List PendingOffer) (n : ℕ) (offer : Offer) (ask : Bool) → ps ≡ pending_one n offer ask ∷ [] → without (1, n) ps ≡ []
none_behind ps n offer ask e = ap (without (1, n)) e ∙ none_left n offer ask

-- where none is pending, a client has none
pub none_has : (s : State) → s.pending ≡ [] → (n : ℕ) × IsPending s (1, n) → ⊥
none_has s none (n, p) = contains_none p.waits (subst (λ (ps : List PendingOffer). Contains ps p.waits) none p.among)
