-- Offers by ascending client.
use Rattle.std.proofs.Common.{◌≤◌, ◌≡◌, ◌∙◌, refl, sym, ap, subst, arith, List, [], ◌∷◌, Contains, true, false, nat_lt}
use Rattle.std.proofs.Common.{if◌then◌else◌, inl, Some, option_map}
use Rattle.std.proofs.lemmas.Bool.{ltb-true, ltb-false}
use Rattle.spec_core.specs.Lists.{IsOneOf}
use Rattle.spec_core.proofs.Members.{contains_first, contains_one, contains_later, one_contained, contains_none}
use Rattle.decision_trees.specs.Lazy.{first}
use Rattle.rule_model.specs.Answering.{name_of}
use Rattle.rule_model.specs.States.{PendingOffer}
use Rattle.log_states.proofs.Tests.{by_cases, on_either}
use Rattle.board_offers.specs.Laws.{LeastIsLeast}
use Rattle.board_offers.specs.Numbering.{lesser_name}
use Rattle.board_offers.specs.Waiting.{insert_by_client, by_client, AreOfDifferentClients}
use Rattle.board_offers.proofs.Members.{goes_behind, goes_before, in_inserted, in_by_client, by_client_in}

-- each offer's client is at most that of each later one
abbrev pub Ascends : List PendingOffer → Type 0
Ascends [] = Unit {0}
Ascends (p ∷ ps) = ((q : PendingOffer) → IsOneOf q ps → p.client ≤ q.client) × Ascends ps

insert_ascends : (p : PendingOffer) (qs : List PendingOffer) → Ascends qs → Ascends (insert_by_client p qs)
insert_ascends p [] h = (λ q k. absurd k, tt)
insert_ascends p (q ∷ qs) h = by_cases (nat_lt q.client p.client)
    (λ e. subst Ascends (sym (goes_behind p q qs e)) (later e, insert_ascends p qs h.1))
    (λ e. subst Ascends (sym (goes_before p q qs e)) (sooner e, h))
  where
    later : nat_lt q.client p.client ≡ true → (x : PendingOffer) → IsOneOf x (insert_by_client p qs) → q.client ≤ x.client
    later e x k =
        let below = ltb-true q.client p.client e in
        on_either (in_inserted p x qs k) (λ f. omega (arith, below, ap (λ z. z.client) f)) (λ m. h.0 x m)

    sooner : nat_lt q.client p.client ≡ false → (x : PendingOffer) → IsOneOf x (q ∷ qs) → p.client ≤ x.client
    sooner e x k =
        let most = ltb-false q.client p.client e in
        on_either k (λ f. omega (arith, most, ap (λ z. z.client) f)) (λ m. let more = h.0 x m in omega (arith, most, more))

pub by_client_ascends : (ps : List PendingOffer) → Ascends (by_client ps)
by_client_ascends [] = tt
by_client_ascends (p ∷ ps) = insert_ascends p (by_client ps) (by_client_ascends ps)

pub least_is_least : LeastIsLeast
least_is_least s p ps e = (
  contains_one p s.pending (in_by_client s.pending p (subst (λ zs. IsOneOf p zs) (sym e) (inl refl))),
  λ q k.
      let ascends = subst Ascends e (by_client_ascends s.pending) in
      on_either (subst (λ zs. IsOneOf q zs) e (by_client_in s.pending q (one_contained q s.pending k)))
      (λ f. omega (arith, ap (λ z. z.client) f))
      (λ m. ascends.0 q m),
)

-- offers of different clients

insert_differs : (p : PendingOffer) (qs : List PendingOffer) → AreOfDifferentClients qs →
    ((q : PendingOffer) → Contains qs q → q.client ≡ p.client → ⊥) → AreOfDifferentClients (insert_by_client p qs)
insert_differs p [] d h = (λ q k e. contains_none q k, tt)
insert_differs p (q ∷ qs) d h = by_cases (nat_lt q.client p.client)
    (λ e. subst AreOfDifferentClients (sym (goes_behind p q qs e))
    (others, insert_differs p qs d.1 (λ x k. h x (contains_later q x qs k))))
    (λ e. subst AreOfDifferentClients (sym (goes_before p q qs e)) (h, d))
  where
    others : (x : PendingOffer) → Contains (insert_by_client p qs) x → x.client ≡ q.client → ⊥
    others x k f = on_either (in_inserted p x qs (one_contained x (insert_by_client p qs) k))
        (λ m. h q (contains_first q qs) (sym f ∙ ap (λ z. z.client) m))
        (λ m. d.0 x (contains_one x qs m) f)

pub by_client_differs : (ps : List PendingOffer) → AreOfDifferentClients ps → AreOfDifferentClients (by_client ps)
by_client_differs [] d = tt
by_client_differs (p ∷ ps) d =
    insert_differs p (by_client ps) (by_client_differs ps d.1)
    (λ q k. d.0 q (contains_one q ps (in_by_client ps q (one_contained q (by_client ps) k))))

-- the name of the first one

pub first_inserted : (p : PendingOffer) (qs : List PendingOffer) →
    option_map name_of (first (insert_by_client p qs)) ≡ Some (lesser_name (name_of p) (option_map name_of (first qs)))
first_inserted p [] = refl
first_inserted p (q ∷ qs) = by_cases (nat_lt q.client p.client)
    (λ e. ap (λ zs. option_map name_of (first zs)) (goes_behind p q qs e)
    ∙ sym (ap (λ b. Some (if b then name_of q else name_of p)) e))
    (λ e. ap (λ zs. option_map name_of (first zs)) (goes_before p q qs e)
    ∙ sym (ap (λ b. Some (if b then name_of q else name_of p)) e))
