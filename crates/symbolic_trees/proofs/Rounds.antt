-- Counting round by round through lists that have one of these in front.
use Rattle.std.proofs.Common.{ℕ, zero, suc, ◌≡◌, ◌<◌, ◌≤◌, ◌+◌, ◌*◌, ◌%◌, ◌/◌, ◌∙◌, List, [], ◌∷◌, ◌++◌, map, flat_map, length, refl, sym, ap}
use Rattle.std.proofs.Common.{arith, ◌-◌, take, drop, Some, None, reverse}
use Rattle.std.specs.Prelude.{option_map, option_and_then}
use Rattle.std.specs.List.{slice_get}
use Rattle.std.proofs.lemmas.List.{reverse-append, take_all}
use Rattle.std.proofs.lemmas.Nat.{div-mul-add, mod-mul-add, div-add-mod'}
use Rattle.std.proofs.lemmas.Option.{slice_get-map, slice_get_within, slice_get_past}
use Rattle.rule_model.specs.declared.rules.Slot.{Slot}
use Rattle.symbolic_composites.specs.OpenFields.{one_each}
use Rattle.symbolic_trees.specs.Rounds.{IsRound, RoundOr}
use Rattle.symbolic_trees.proofs.Fronts.{in_front, front_length, fronts_count}
use Rattle.symbolic_trees.proofs.Pieces.{get_piece}

regrouped : (q l i c p : ℕ) → (q * l + i) * c + p ≡ q * (l * c) + (i * c + p)
regrouped q l i c p = grind arith

module _ {A B : Type 0} (join : A → B → B) (ys : List B) where
  -- one element before each of others
  pub front_round : (xs : List A) (n rounds k i q : ℕ) (x : A) (y z : B) → IsRound ys n y rounds → k ≡ length xs → i ≡ rounds % k →
      q ≡ rounds / k → Some x ≡ slice_get xs i → z ≡ join x y → IsRound (flat_map (in_front join ys) xs) n z q
  front_round xs n rounds k i q x y z round long rest whole found joined = record {
    place = i * length ys + round.place;
    there =
        get_piece (in_front join ys) (length ys) xs (i * length ys + round.place) more (front_length join ys xs)
        ∙ ap (λ j. option_and_then (λ a. slice_get (in_front join ys a) ((i * length ys + round.place) % length ys)) (slice_get xs j))
        (div-mul-add i (length ys) round.place within)
        ∙ ap (λ j. option_and_then (λ a. slice_get (in_front join ys a) j) (slice_get xs i)) (mod-mul-add i (length ys) round.place within)
        ∙ ap (option_and_then (λ a. slice_get (in_front join ys a) round.place)) (sym found)
        ∙ slice_get-map (join x) ys round.place
        ∙ ap (option_map (join x)) round.there
        ∙ ap Some (sym joined);
    counts =
        round.counts
        ∙ ap (λ m. m * length ys + round.place) (sym (div-add-mod' rounds k))
        ∙ regrouped (rounds / k) k (rounds % k) (length ys) round.place
        ∙ ap (λ m. m * (k * length ys) + (rounds % k * length ys + round.place)) (sym whole)
        ∙ ap (λ m. q * (k * length ys) + (m * length ys + round.place)) (sym rest)
        ∙ ap (λ m. q * (m * length ys) + (i * length ys + round.place)) long
        ∙ ap (λ m. q * m + (i * length ys + round.place)) (sym (fronts_count join ys xs));
  }
    where
      within : round.place < length ys
      within = slice_get_within ys round.place y round.there

      more : 0 < length ys
      more = omega (arith, within)

  -- without others there is nothing to stand before
  pub none_behind : (xs : List A) → length ys ≡ 0 → length (flat_map (in_front join ys) xs) ≡ 0
  none_behind xs e = fronts_count join ys xs ∙ ap (λ m. length xs * m) e ∙ by_zero (length xs)
    where
      by_zero : (m : ℕ) → m * 0 ≡ 0
      by_zero m = grind arith

  -- nor without an element
  pub none_before : (xs : List A) (k : ℕ) → k ≡ length xs → k ≡ 0 → length (flat_map (in_front join ys) xs) ≡ 0
  none_before xs k e z = fronts_count join ys xs ∙ ap (λ m. m * length ys) (sym e ∙ z) ∙ by_zero (length ys)
    where
      by_zero : (m : ℕ) → 0 * m ≡ 0
      by_zero m = grind arith

-- a number that goes round no whole list counts up to its place
pub first_round : {B : Type 0} (ys : List B) (n rounds : ℕ) (y : B) → IsRound ys n y rounds → rounds ≡ 0 → Some y ≡ slice_get ys n
first_round ys n rounds y h z =
    let e : n ≡ h.place = h.counts ∙ ap (λ m. m * length ys + h.place) z ∙ by_zero (length ys) h.place in
    sym (ap (slice_get ys) e ∙ h.there)
  where
    by_zero : (m p : ℕ) → 0 * m + p ≡ p
    by_zero m p = grind arith

-- one that does is past the end
pub later_round : {B : Type 0} (ys : List B) (n rounds : ℕ) (y : B) → IsRound ys n y rounds → (rounds ≡ 0 → ⊥) → None ≡ slice_get ys n
later_round ys n zero y h z = absurd (z refl)
later_round ys n (suc rounds) y h z =
    let e : n ≡ length ys + rounds * length ys + h.place = h.counts ∙ ap (λ m. m + h.place) (next rounds (length ys)) in
    sym (slice_get_past ys n (omega (arith, e)))
  where
    next : (r l : ℕ) → suc r * l ≡ l + r * l
    next r l = grind arith

-- an empty list has nothing at any place
pub no_round : {B : Type 0} (ys : List B) (n : ℕ) → length ys ≡ 0 → None ≡ slice_get ys n
no_round ys n e = sym (slice_get_past ys n (omega (arith, e)))

-- the last element is the first one from behind
pub last_first : {A : Type 0} (xs : List A) (x : A) → reverse (xs ++ x ∷ []) ≡ x ∷ reverse xs
last_first xs x = reverse-append xs (x ∷ [])

-- where the fields behind the first one can't be filled, none can
pub none_longer : (choices : List (List Slot)) → 1 ≤ length choices →
    length (one_each (take (length choices - 1) (drop 1 choices))) ≡ 0 → length (one_each choices) ≡ 0
none_longer [] more e = absurd (omega (arith, more))
none_longer (slots ∷ choices) more e =
    let few : length choices ≤ length (slots ∷ choices) - 1 = omega arith in
    let all : take (length (slots ∷ choices) - 1) choices ≡ choices = take_all (length (slots ∷ choices) - 1) choices few in
    none_behind (λ (slot : Slot) others. (slot ∷ []) ∷ others) (one_each choices) slots
    (ap (λ l. length (one_each l)) (sym all) ∙ e)
