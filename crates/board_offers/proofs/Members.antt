-- Elements of lists of offers.
use Rattle.std.proofs.Common.{◌≡◌, refl, sym, ap, subst}
use Rattle.std.proofs.Common.{List, [], ◌∷◌, map, Contains, Bool, true, false, nat_lt, if◌then◌else◌, ◌⊎◌, inl, inr}
use Rattle.std.specs.List.{filter}
use Rattle.spec_core.specs.Lists.{IsOneOf}
use Rattle.spec_core.proofs.Members.{contains_first, contains_one, contains_later, one_contained, contains_none}
use Rattle.rule_model.specs.States.{PendingOffer}
use Rattle.log_states.proofs.Members.{in_cases}
use Rattle.log_states.proofs.Tests.{by_cases, on_either}
use Rattle.board_offers.specs.Waiting.{insert_by_client, by_client, only_asks}

-- elements of lists that are made from others

pub in_filtered : {X : Type 0} (test : X → Bool) (xs : List X) (x : X) → Contains (filter test xs) x → Contains xs x
in_filtered test [] x h = absurd (contains_none x h)
in_filtered test (y ∷ ys) x h = by_cases (test y)
    (λ e. on_either (in_cases y x (filter test ys)
    (subst (λ zs. Contains zs x) (ap (λ b. if b then y ∷ filter test ys else filter test ys) e) h))
    (λ f. subst (λ z. Contains (y ∷ ys) z) f (contains_first y ys))
    (λ k. contains_later y x ys (in_filtered test ys x k)))
    (λ e. contains_later y x ys (in_filtered test ys x
    (subst (λ zs. Contains zs x) (ap (λ b. if b then y ∷ filter test ys else filter test ys) e) h)))

pub record ComesFrom {X Y : Type 0} (f : X → Y) (xs : List X) (y : Y) : Type 0 where
  pub element : X
  pub among : IsOneOf element xs
  pub image : y ≡ f element

pub comes_from : {X Y : Type 0} (f : X → Y) (xs : List X) (y : Y) → IsOneOf y (map f xs) → ComesFrom f xs y
comes_from f [] y h = absurd h
comes_from f (x ∷ xs) y (inl e) = record { element = x; among = inl refl; image = e }
comes_from f (x ∷ xs) y (inr k) =
    let m = comes_from f xs y k in
    record { element = m.element; among = inr m.among; image = m.image }

-- an offer before or behind the first of others

pub goes_behind : (p q : PendingOffer) (qs : List PendingOffer) → nat_lt q.client p.client ≡ true →
    insert_by_client p (q ∷ qs) ≡ q ∷ insert_by_client p qs
goes_behind p q qs e = ap (λ b. if b then q ∷ insert_by_client p qs else p ∷ q ∷ qs) e

pub goes_before : (p q : PendingOffer) (qs : List PendingOffer) → nat_lt q.client p.client ≡ false →
    insert_by_client p (q ∷ qs) ≡ p ∷ q ∷ qs
goes_before p q qs e = ap (λ b. if b then q ∷ insert_by_client p qs else p ∷ q ∷ qs) e

pub in_inserted : (p x : PendingOffer) (qs : List PendingOffer) → IsOneOf x (insert_by_client p qs) → (x ≡ p) ⊎ IsOneOf x qs
in_inserted p x [] h = h
in_inserted p x (q ∷ qs) h = by_cases (nat_lt q.client p.client)
    (λ e. on_either (subst (λ zs. IsOneOf x zs) (goes_behind p q qs e) h) (λ f. inr (inl f))
    (λ k. on_either (in_inserted p x qs k) (λ f. inl f) (λ m. inr (inr m))))
    (λ e. subst (λ zs. IsOneOf x zs) (goes_before p q qs e) h)

pub inserted_in : (p x : PendingOffer) (qs : List PendingOffer) → (x ≡ p) ⊎ IsOneOf x qs → IsOneOf x (insert_by_client p qs)
inserted_in p x [] h = h
inserted_in p x (q ∷ qs) h = by_cases (nat_lt q.client p.client)
    (λ e. subst (λ zs. IsOneOf x zs) (sym (goes_behind p q qs e)) (on_either h (λ f. inr (inserted_in p x qs (inl f)))
    (λ k. on_either k (λ f. inl f) (λ m. inr (inserted_in p x qs (inr m))))))
    (λ e. subst (λ zs. IsOneOf x zs) (sym (goes_before p q qs e)) h)

pub in_by_client : (ps : List PendingOffer) (x : PendingOffer) → IsOneOf x (by_client ps) → IsOneOf x ps
in_by_client [] x h = h
in_by_client (p ∷ ps) x h = on_either (in_inserted p x (by_client ps) h) (λ e. inl e) (λ k. inr (in_by_client ps x k))

pub by_client_in : (ps : List PendingOffer) (x : PendingOffer) → IsOneOf x ps → IsOneOf x (by_client ps)
by_client_in [] x h = h
by_client_in (p ∷ ps) x h = inserted_in p x (by_client ps) (on_either h (λ e. inl e) (λ k. inr (by_client_in ps x k)))

pub in_asks : (ps : List PendingOffer) (x : PendingOffer) → IsOneOf x (only_asks ps) → IsOneOf x ps
in_asks ps x h = one_contained x ps (in_filtered (λ p. p.ask) ps x (contains_one x (only_asks ps) h))
