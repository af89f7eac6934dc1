-- Names of all pending offers, in the order of clients.
use Rattle.std.proofs.Common.{ℕ, ◌≤◌, ◌≡◌, refl, sym, ap, subst, arith, List, [], ◌∷◌, map, Contains, true, nat_lt}
use Rattle.std.proofs.Common.{inl}
use Rattle.std.proofs.lemmas.Bool.{ltb-false, and_from}
use Rattle.spec_core.specs.Lists.{IsOneOf}
use Rattle.spec_core.proofs.Members.{contains_first, contains_one, one_contained, one_map}
use Rattle.rule_model.specs.Answering.{name_of}
use Rattle.rule_model.specs.Events.{OfferName}
use Rattle.rule_model.specs.Legal.{IsPending}
use Rattle.rule_model.specs.States.{PendingOffer}
use Rattle.log_states.specs.Pending.{is_ascending}
use Rattle.log_states.proofs.Tests.{by_cases}
use Rattle.log_states.proofs.Waiting.{ascending}
use Rattle.board_offers.specs.Laws.{StallsNameAll}
use Rattle.board_offers.specs.Waiting.{by_client, AreOfDifferentClients}
use Rattle.board_offers.proofs.Members.{comes_from, in_by_client, by_client_in}
use Rattle.board_offers.proofs.Order.{Ascends, by_client_ascends, by_client_differs}

-- the first of two clients that ascend and differ is the lesser one
lesser_first : (x y : ℕ) → x ≤ y → (y ≡ x → ⊥) → nat_lt x y ≡ true
lesser_first x y most other = by_cases (nat_lt x y) (λ e. e)
    (λ e. let least = ltb-false x y e in absurd (other (omega (arith, most, least))))

names_ascend : (ps : List PendingOffer) → Ascends ps → AreOfDifferentClients ps → is_ascending (map name_of ps) ≡ true
names_ascend [] a d = refl
names_ascend (p ∷ []) a d = refl
names_ascend (p ∷ q ∷ ps) a d =
    and_from (nat_lt p.client q.client) (is_ascending (map name_of (q ∷ ps)))
    (lesser_first p.client q.client (a.0 q (inl refl)) (d.0 q (contains_first q ps)))
    (names_ascend (q ∷ ps) a.1 d.1)

-- where there are offers there are names
names_some : (ps : List PendingOffer) → (ps ≡ [] → ⊥) → map name_of (by_client ps) ≡ [] → ⊥
names_some [] h e = h refl
names_some (p ∷ ps) h e =
    subst (λ names. IsOneOf (name_of p) names) e (one_map name_of p (by_client (p ∷ ps)) (by_client_in (p ∷ ps) p (inl refl)))

pub stalls_name_all : StallsNameAll
stalls_name_all s d some = record {
  some = names_some s.pending some;
  all = record {
    ascending = ascending (map name_of (by_client s.pending))
        (names_ascend (by_client s.pending) (by_client_ascends s.pending) (by_client_differs s.pending d));
    all = λ p k. contains_one (name_of p) (map name_of (by_client s.pending))
        (one_map name_of p (by_client s.pending) (by_client_in s.pending p (one_contained p s.pending k)));
    only = λ name k. named name k;
  };
}
  where
    named : (name : OfferName) → Contains (map name_of (by_client s.pending)) name → IsPending s name
    named name k =
        let m = comes_from name_of (by_client s.pending) name (one_contained name (map name_of (by_client s.pending)) k) in
        record {
          waits = m.element;
          among = contains_one m.element s.pending (in_by_client s.pending m.element m.among);
          client = sym (ap (λ z. z.0) m.image);
          number = sym (ap (λ z. z.1) m.image);
          holds = tt;
        }
