-- Offers by their places, and lists of places.
use Rattle.std.proofs.Common.{ℕ, zero, suc, ◌+◌, ◌<◌, ◌≡◌, ◌∙◌, refl, sym, ap, subst, arith, List, [], ◌∷◌, ◌++◌, map, take, drop}
use Rattle.std.proofs.Common.{length, get_or, nat_lt, if◌then◌else◌}
use Rattle.std.specs.List.{insert}
use Rattle.std.proofs.lemmas.List.{map-append}
use Rattle.std.proofs.lemmas.List.Elements.{filter-append}
use Rattle.spec_core.specs.Lists.{Each}
use Rattle.spec_core.proofs.Lists.{each_insert, take_next}
use Rattle.rule_model.specs.States.{PendingOffer}
use Rattle.log_states.proofs.Tests.{by_cases}
use Rattle.board_offers.specs.Laws.{NumbersAreOfOffers}
use Rattle.board_offers.specs.Numbering.{place_by_client, AreNumbers}
use Rattle.board_offers.specs.Offers.{offer_at}
use Rattle.board_offers.specs.Waiting.{insert_by_client, by_client, only_asks}

-- the offer at a place and those from the next one on
pub dropped : (ps : List PendingOffer) (k : ℕ) → k < length ps → drop k ps ≡ offer_at ps k ∷ drop (k + 1) ps
dropped [] k within = absurd (omega (arith, within))
dropped (p ∷ ps) zero within = refl
dropped (p ∷ ps) (suc k) within =
    let e : suc (k + 1) ≡ suc k + 1 = omega arith in
    dropped ps k (omega (arith, within)) ∙ ap (λ j. offer_at ps k ∷ drop j (p ∷ ps)) e

-- the offers before a place and the one at it
pub taken : (ps : List PendingOffer) (k : ℕ) → k < length ps → take (k + 1) ps ≡ take k ps ++ offer_at ps k ∷ []
taken [] k within = absurd (omega (arith, within))
taken (p ∷ ps) zero within = refl
taken (p ∷ ps) (suc k) within =
    let e : suc k + 1 ≡ suc (k + 1) = omega arith in
    ap (λ j. take j (p ∷ ps)) e ∙ ap (λ qs. p ∷ qs) (taken ps k (omega (arith, within)))

-- the offers from a place on, by client
pub by_client_from : (ps : List PendingOffer) (k j : ℕ) → k < length ps → j ≡ k + 1 →
    by_client (drop k ps) ≡ insert_by_client (offer_at ps k) (by_client (drop j ps))
by_client_from ps k j within e =
    ap by_client (dropped ps k within) ∙ ap (λ i. insert_by_client (offer_at ps k) (by_client (drop i ps))) (sym e)

-- a number put among others

insert_later : (m : ℕ) (ns : List ℕ) (k n : ℕ) → insert (m ∷ ns) (k + 1) n ≡ m ∷ insert ns k n
insert_later m ns k n =
    let e : k + 1 ≡ suc k = omega arith in
    ap (λ j. insert (m ∷ ns) j n) e

module _ (offer : ℕ → PendingOffer) where
  pub inserted : (n : ℕ) (ns : List ℕ) →
      map offer (insert ns (place_by_client (offer n).client (map offer ns)) n) ≡ insert_by_client (offer n) (map offer ns)
  inserted n [] = refl
  inserted n (m ∷ ns) = by_cases (nat_lt (offer m).client (offer n).client)
      (λ e. ap (λ b. map offer (insert (m ∷ ns) (if b then place_by_client (offer n).client (map offer ns) + 1 else 0) n)) e
      ∙ ap (map offer) (insert_later m ns (place_by_client (offer n).client (map offer ns)) n)
      ∙ ap (λ qs. offer m ∷ qs) (inserted n ns)
      ∙ sym (ap (λ b. if b then offer m ∷ insert_by_client (offer n) (map offer ns) else offer n ∷ offer m ∷ map offer ns) e))
      (λ e. ap (λ b. map offer (insert (m ∷ ns) (if b then place_by_client (offer n).client (map offer ns) + 1 else 0) n)) e
      ∙ sym (ap (λ b. if b then offer m ∷ insert_by_client (offer n) (map offer ns) else offer n ∷ offer m ∷ map offer ns) e))

  pub put_among : (n client k : ℕ) (old new : List ℕ) → new ≡ insert old k n → k ≡ place_by_client client (map offer old) →
      client ≡ (offer n).client → map offer new ≡ insert_by_client (offer n) (map offer old)
  put_among n client k old new e f g =
      ap (map offer) (e ∙ ap (λ j. insert old j n) (f ∙ ap (λ c. place_by_client c (map offer old)) g)) ∙ inserted n old

  -- one more number whose offer may only ask
  pub asks_next : (ns : List ℕ) (i n : ℕ) (old new : List ℕ) → i < length ns → n ≡ get_or ns i n →
      map offer old ≡ only_asks (map offer (take i ns)) → map offer new ≡ map offer old ++ only_asks (offer n ∷ []) →
      map offer new ≡ only_asks (map offer (take (i + 1) ns))
  asks_next ns i n old new within at e f =
      f ∙ ap (λ qs. qs ++ only_asks (offer n ∷ [])) e ∙ sym (filter-append (λ p. p.ask) (map offer (take i ns)) (offer n ∷ []))
      ∙ ap only_asks (sym (map-append offer (take i ns) (n ∷ [])))
      ∙ ap (λ ms. only_asks (map offer ms)) (sym (take_next ns i n within at))

-- numbers of offers

pub inserted_numbers : (count n k : ℕ) (old new : List ℕ) → new ≡ insert old k n → n < count → AreNumbers count old → AreNumbers count new
inserted_numbers count n k old new e below h = subst (AreNumbers count) (sym e) (each_insert (λ m. m < count) old k n h below)

pub each_at : {X : Type 0} (P : X → Type 0) (xs : List X) (i : ℕ) (x : X) → Each P xs → i < length xs → x ≡ get_or xs i x → P x
each_at P [] i x h within at = absurd (omega (arith, within))
each_at P (y ∷ ys) zero x h within at = subst P (sym at) h.0
each_at P (y ∷ ys) (suc i) x h within at = each_at P ys i x h.1 (omega (arith, within)) at

pub numbers_are_of_offers : NumbersAreOfOffers
numbers_are_of_offers ps n below = (n, below, there ps n below)
  where
    there : (ps : List PendingOffer) (n : ℕ) → n < length ps → get_or ps n (offer_at ps n) ≡ offer_at ps n
    there [] n below = absurd (omega (arith, below))
    there (p ∷ ps) zero below = refl
    there (p ∷ ps) (suc n) below = there ps n (omega (arith, below))
