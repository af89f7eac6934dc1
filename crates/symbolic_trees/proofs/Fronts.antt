-- Ways to fill fields, and lists of slots of an action.
use Rattle.std.proofs.Common.{ℕ, ◌≡◌, ◌<◌, ◌-◌, ◌^◌, ◌*◌, ◌%◌, ◌/◌, ◌∙◌, List, [], ◌∷◌, map, flat_map, length, refl, sym, ap}
use Rattle.std.proofs.Common.{arith}
use Rattle.std.proofs.Common.{Bool, true, false, if◌then◌else◌, Option, Some, None}
use Rattle.std.specs.Prelude.{option_map, option_and_then}
use Rattle.std.specs.List.{slice_get}
use Rattle.std.proofs.lemmas.List.{length-map}
use Rattle.std.proofs.lemmas.Option.{slice_get-map}
use Rattle.spec_core.specs.Lists.{Each}
use Rattle.spec_core.proofs.Lists.{each_always, each_slice_get, each_implied, each_image}
use Rattle.rule_model.specs.declared.rules.Slot.{Slot}
use Rattle.symbolic_composites.specs.OpenFields.{OpenField, any_marked, one_each, choices_at_once}
use Rattle.symbolic_plans.specs.Plans.{taken_slots}
use Rattle.symbolic_trees.specs.Numbers.{counted}
use Rattle.symbolic_trees.proofs.Pieces.{each_flat, length_pieces}
use Rattle.symbolic_trees.proofs.Capped.{capped_times, get_capped, get_empty}

-- the greatest number that 64 bits count
abbrev pub most : ℕ
most = 2 ^ 64 - 1

-- Pairs: a list of lists, each with one of these in front.
module _ {A B : Type 0} (join : A → B → B) (ys : List B) where
  abbrev pub in_front : A → List B
  in_front x = map (join x) ys

  pub front_length : (xs : List A) → Each (λ x. length (in_front x) ≡ length ys) xs
  front_length xs = each_always (λ x. length (in_front x) ≡ length ys) xs (λ x. length-map ys (join x))

  pub fronts_count : (xs : List A) → length (flat_map in_front xs) ≡ length xs * length ys
  fronts_count xs = length_pieces in_front (length ys) xs (front_length xs)

  pub fronts_counted : (xs : List A) (k r : ℕ) → k ≡ counted (length ys) → r ≡ counted (length xs * k) →
      r ≡ counted (length (flat_map in_front xs))
  fronts_counted xs k r e f = f ∙ capped_times most (length xs) k (length ys) e ∙ sym (ap counted (fronts_count xs))

  pub fronts_empty : (xs : List A) (k n : ℕ) → k ≡ counted (length ys) → n < most → k ≡ 0 → slice_get (flat_map in_front xs) n ≡ None
  fronts_empty xs k n e l z = get_empty most in_front (length ys) k xs n e l z (front_length xs)

  pub fronts_at : (xs : List A) (k n : ℕ) → k ≡ counted (length ys) → n < most → 0 < k →
      slice_get (flat_map in_front xs) n ≡ option_and_then (λ x. option_map (join x) (slice_get ys (n % k))) (slice_get xs (n / k))
  fronts_at xs k n e l p =
      get_capped most in_front (length ys) k xs n e l p (front_length xs)
      ∙ by_option (slice_get xs (n / k))
    where
      by_option : (o : Option A) →
          option_and_then (λ x. slice_get (map (join x) ys) (n % k)) o ≡
          option_and_then (λ x. option_map (join x) (slice_get ys (n % k))) o
      by_option None = refl
      by_option (Some x) = slice_get-map (join x) ys (n % k)

  -- what comes of a number that is divided by a count

  pub no_fronts : (xs : List A) (k n : ℕ) → k ≡ counted (length ys) → n < most → k ≡ 0 → None ≡ slice_get (flat_map in_front xs) n
  no_fronts xs k n e l z = sym (fronts_empty xs k n e l z)

  pub no_first : (xs : List A) (k n : ℕ) → k ≡ counted (length ys) → n < most → (k ≡ 0 → ⊥) → None ≡ slice_get xs (n / k) →
      None ≡ slice_get (flat_map in_front xs) n
  no_first xs k n e l p f =
      let q : 0 < k = omega (arith, p) in
      sym (fronts_at xs k n e l q ∙ ap (option_and_then (λ x. option_map (join x) (slice_get ys (n % k)))) (sym f))

  pub no_rest : (xs : List A) (k n : ℕ) (x : A) → k ≡ counted (length ys) → n < most → (k ≡ 0 → ⊥) → Some x ≡ slice_get xs (n / k) →
      None ≡ slice_get ys (n % k) → None ≡ slice_get (flat_map in_front xs) n
  no_rest xs k n x e l p f g =
      let q : 0 < k = omega (arith, p) in
      sym (fronts_at xs k n e l q ∙ ap (option_and_then (λ x. option_map (join x) (slice_get ys (n % k)))) (sym f) ∙ ap
      (option_map (join x)) (sym g))

  pub both_parts : (xs : List A) (k n : ℕ) (x : A) (y r : B) → k ≡ counted (length ys) → n < most → (k ≡ 0 → ⊥) → Some x ≡ slice_get xs
      (n / k) →
      Some y ≡ slice_get ys (n % k) → r ≡ join x y → Some r ≡ slice_get (flat_map in_front xs) n
  both_parts xs k n x y r e l p f g h =
      let q : 0 < k = omega (arith, p) in
      ap Some h
      ∙ sym (fronts_at xs k n e l q ∙ ap (option_and_then (λ x. option_map (join x) (slice_get ys (n % k)))) (sym f) ∙ ap
      (option_map (join x)) (sym g))

abbrev pub widths : List (List Slot) → List ℕ
widths slots = map length slots

-- each way to fill fields that have one slot each has one slot for each
each_width : (choices : List (List Slot)) → Each (λ x. widths x ≡ map (λ slots. 1) choices) (one_each choices)
each_width [] = (refl, tt)
each_width (slots ∷ choices) =
    each_flat (λ x. widths x ≡ map (λ own. 1) (slots ∷ choices)) (λ slot. map (λ others. (slot ∷ []) ∷ others) (one_each choices)) slots
    (λ slot. each_image (λ x. widths x ≡ map (λ own. 1) choices) (λ x. widths x ≡ map (λ own. 1) (slots ∷ choices))
    (λ others. (slot ∷ []) ∷ others) (one_each choices) (λ x e. ap (λ z. 1 ∷ z) e) (each_width choices))

-- all ways to fill fields give each field as many slots as the first one does
pub ways_width : (fields : List OpenField) (choices first : List (List Slot)) → slice_get (choices_at_once fields choices) 0 ≡ Some first →
    Each (λ x. widths x ≡ widths first) (choices_at_once fields choices)
ways_width fields choices first e = by_mark (any_marked fields) e
  where
    by_mark : (b : Bool) → slice_get (if b then choices ∷ [] else one_each choices) 0 ≡ Some first →
        Each (λ x. widths x ≡ widths first) (if b then choices ∷ [] else one_each choices)
    by_mark true e = let q : choices ≡ first = cc in (ap widths q, tt)
    by_mark false e =
        let ones : widths first ≡ map (λ slots. 1) choices = each_slice_get (λ x. widths x ≡ map (λ slots. 1) choices) (one_each choices) 0 first
        (each_width choices) e in
        each_implied (λ x. widths x ≡ map (λ slots. 1) choices) (λ x. widths x ≡ widths first) (one_each choices) (λ x h. h ∙ sym ones)
        (each_width choices)

pub taken_same : (takes : List Bool) (xs ys : List (List Slot)) → widths xs ≡ widths ys →
    length (taken_slots takes xs) ≡ length (taken_slots takes ys)
taken_same [] xs ys e = refl
taken_same (taken ∷ takes) [] [] e = refl
taken_same (taken ∷ takes) [] (y ∷ ys) e = cc
taken_same (taken ∷ takes) (x ∷ xs) [] e = cc
taken_same (false ∷ takes) (x ∷ xs) (y ∷ ys) e = let q : widths xs ≡ widths ys = cc in taken_same takes xs ys q
taken_same (true ∷ takes) (x ∷ xs) (y ∷ ys) e =
    let q : widths xs ≡ widths ys = cc in
    let r : length x ≡ length y = cc in
    fronts_count (λ (slot : Slot) slots. slot ∷ slots) (taken_slots takes xs) x
    ∙ ap (λ z. length x * z) (taken_same takes xs ys q)
    ∙ ap (λ z. z * length (taken_slots takes ys)) r
    ∙ sym (fronts_count (λ (slot : Slot) slots. slot ∷ slots) (taken_slots takes ys) y)
