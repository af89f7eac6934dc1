-- Trees of plans.
use Rattle.std.proofs.Common.{ℕ, zero, suc, ◌≡◌, ◌<◌, ◌*◌, ◌/◌, ◌%◌, ◌∙◌, List, [], ◌∷◌, map, flat_map, length, refl, sym, ap, arith, Option, Some}
use Rattle.std.proofs.Common.{None, subst, Result, IfOk}
use Rattle.std.specs.Prelude.{option_and_then, option_map}
use Rattle.std.proofs.lemmas.Option.{slice_get-map}
use Rattle.std.specs.Fn.{iterate}
use Rattle.std.specs.List.{slice_get}
use Rattle.std.proofs.lemmas.List.{length-map}
use Rattle.spec_core.specs.Lists.{Each}
use Rattle.spec_core.specs.Theories.{Theory}
use Rattle.spec_core.proofs.Lists.{each_implied}
use Rattle.rule_model.specs.declared.rules.Slot.{Slot}
use Rattle.rule_model.specs.Derivations.{Derivation, pre, exiting, both}
use Rattle.symbolic_rules.specs.Windows.{Windows}
use Rattle.symbolic_composites.specs.OpenFields.{OpenField, choices_at_once}
use Rattle.symbolic_plans.specs.declared.scheme.Row.{Row}
use Rattle.symbolic_plans.proofs.Runs.{iterate_same, iterate_through}
use Rattle.symbolic_plans.specs.Plans.{Plan, prefix, internal, termination, below, hidden, handed_on, together, taken_slots, trees_of}
use Rattle.symbolic_plans.specs.Plans.{put_row}
use Rattle.symbolic_trees.specs.Numbers.{counted, trees_at_once}
use Rattle.symbolic_trees.proofs.Pieces.{length_pieces}
use Rattle.symbolic_trees.proofs.Capped.{capped_both, get_capped, get_empty}
use Rattle.symbolic_trees.proofs.Fronts.{most, widths, fronts_count, ways_width, taken_same}

module _ (theory : Theory) (w : Windows) where
  -- how many trees a plan has depends on how many slots each field may have
  trees_same : (p : Plan) (xs ys : List (List Slot)) → widths xs ≡ widths ys →
      length (trees_of theory w p xs) ≡ length (trees_of theory w p ys)
  trees_same (prefix takes) xs ys e =
      length-map (taken_slots takes xs) pre ∙ taken_same takes xs ys e ∙ sym (length-map (taken_slots takes ys) pre)
  trees_same internal xs ys e = refl
  trees_same (termination takes) xs ys e =
      length-map (taken_slots takes xs) exiting ∙ taken_same takes xs ys e ∙ sym (length-map (taken_slots takes ys) exiting)
  trees_same (below row p) xs ys e =
      length-map (trees_of theory w p xs) (put_row row) ∙ trees_same p xs ys e ∙ sym (length-map (trees_of theory w p ys) (put_row row))
  trees_same (hidden fields p) xs ys e = refl
  trees_same (handed_on fields p) xs ys e = refl
  trees_same (together p q) xs ys e =
      fronts_count both (trees_of theory w q xs) (trees_of theory w p xs)
      ∙ ap (λ z. z * length (trees_of theory w q xs)) (trees_same p xs ys e)
      ∙ ap (λ z. length (trees_of theory w p ys) * z) (trees_same q xs ys e)
      ∙ sym (fronts_count both (trees_of theory w q ys) (trees_of theory w p ys))

  -- of a rule over its part, and the same rule so many times more over that
  module _ (row : Row) (more : ℕ) (p : Plan) (slots : List (List Slot)) where
    abbrev run : Plan
    run = below row (iterate (below row) more p)

    -- there are as many trees as the part has
    run_count : length (trees_of theory w run slots) ≡ length (trees_of theory w p slots)
    run_count =
        length-map (trees_of theory w (iterate (below row) more p) slots) (put_row row)
        ∙ iterate_same (below row) (λ q. length (trees_of theory w q slots)) (λ q. length-map (trees_of theory w q slots) (put_row row)) more p

    pub run_counted : {E : Type 0} (plan : Plan) (r : Result ℕ E) → plan ≡ run →
        IfOk r (λ n. n ≡ counted (length (trees_of theory w p slots))) → IfOk r (λ n. n ≡ counted (length (trees_of theory w plan slots)))
    run_counted plan r is h =
        subst (λ z. IfOk r (λ n. n ≡ counted z)) (sym (ap (λ q. length (trees_of theory w q slots)) is ∙ run_count)) h

    -- each is that of the part with the same number, under the rules
    run_at : (n : ℕ) → slice_get (trees_of theory w run slots) n ≡
        option_map (put_row row) (iterate (option_map (put_row row)) more (slice_get (trees_of theory w p slots) n))
    run_at n =
        slice_get-map (put_row row) (trees_of theory w (iterate (below row) more p) slots) n
        ∙ ap (option_map (put_row row))
        (iterate_through (below row) (option_map (put_row row)) (λ q. slice_get (trees_of theory w q slots) n)
        (λ q. slice_get-map (put_row row) (trees_of theory w q slots) n) more p)

    pub none_under : (n : ℕ) → None ≡ slice_get (trees_of theory w p slots) n → None ≡ slice_get (trees_of theory w run slots) n
    none_under n e = sym (run_at n ∙ ap (λ o. option_map (put_row row) (iterate (option_map (put_row row)) more o)) (sym e)
        ∙ ap (option_map (put_row row)) (all_none more))
      where
        all_none : (k : ℕ) → iterate (option_map (put_row row)) k None ≡ None
        all_none zero = refl
        all_none (suc k) = all_none k

    pub some_under : (n : ℕ) (d e : Derivation) → Some d ≡ slice_get (trees_of theory w p slots) n →
        e ≡ put_row row (iterate (put_row row) more d) → Some e ≡ slice_get (trees_of theory w run slots) n
    some_under n d e is f =
        ap Some f
        ∙ ap (option_map (put_row row)) (iterate_through (put_row row) (option_map (put_row row)) Some (λ x. refl) more d)
        ∙ sym (run_at n ∙ ap (λ o. option_map (put_row row) (iterate (option_map (put_row row)) more o)) (sym is))

  module _ (fields : List OpenField) (p : Plan) (choices first : List (List Slot)) where
    -- each way to fill the fields gives as many trees as the first one
    each_way : slice_get (choices_at_once fields choices) 0 ≡ Some first →
        Each (λ x. length (trees_of theory w p x) ≡ length (trees_of theory w p first)) (choices_at_once fields choices)
    each_way e =
        each_implied (λ x. widths x ≡ widths first) (λ x. length (trees_of theory w p x) ≡ length (trees_of theory w p first))
        (choices_at_once fields choices) (λ x h. trees_same p x first h) (ways_width fields choices first e)

    pub some_counted : (ways each r : ℕ) → Some first ≡ slice_get (choices_at_once fields choices) 0 →
        ways ≡ counted (length (choices_at_once fields choices)) → each ≡ counted (length (trees_of theory w p first)) →
        r ≡ counted (ways * each) → r ≡ counted (length (trees_at_once theory w fields p choices))
    some_counted ways each r e a b c =
        c
        ∙ capped_both most ways each (length (choices_at_once fields choices)) (length (trees_of theory w p first)) a b
        ∙ sym (ap counted (length_pieces (λ own. trees_of theory w p own) (length (trees_of theory w p first))
        (choices_at_once fields choices) (each_way (sym e))))

    module _ (each n : ℕ) (first_is : Some first ≡ slice_get (choices_at_once fields choices) 0)
        (each_is : each ≡ counted (length (trees_of theory w p first))) (small : n < most) where
      pub no_trees : each ≡ 0 → None ≡ slice_get (trees_at_once theory w fields p choices) n
      no_trees z =
          sym (get_empty most (λ own. trees_of theory w p own) (length (trees_of theory w p first)) each (choices_at_once fields choices) n
          each_is small z (each_way (sym first_is)))

      there : (each ≡ 0 → ⊥) →
          slice_get (trees_at_once theory w fields p choices) n ≡
          option_and_then (λ own. slice_get (trees_of theory w p own) (n % each)) (slice_get (choices_at_once fields choices) (n / each))
      there z =
          let q : 0 < each = omega (arith, z) in
          get_capped most (λ own. trees_of theory w p own) (length (trees_of theory w p first)) each (choices_at_once fields choices) n
          each_is small q (each_way (sym first_is))

      pub no_way : (each ≡ 0 → ⊥) → None ≡ slice_get (choices_at_once fields choices) (n / each) →
          None ≡ slice_get (trees_at_once theory w fields p choices) n
      no_way z e = sym (there z ∙ ap (option_and_then (λ own. slice_get (trees_of theory w p own) (n % each))) (sym e))

      pub by_way : (way : List (List Slot)) (o : Option Derivation) → (each ≡ 0 → ⊥) → Some way ≡ slice_get (choices_at_once fields choices)
          (n / each) →
          o ≡ slice_get (trees_of theory w p way) (n % each) → o ≡ slice_get (trees_at_once theory w fields p choices) n
      by_way way o z e f = f ∙ sym (there z ∙ ap (option_and_then (λ own. slice_get (trees_of theory w p own) (n % each))) (sym e))

  -- where there is no way, there is no tree
  pub none_there : (fields : List OpenField) (p : Plan) (choices : List (List Slot)) → None ≡ slice_get (choices_at_once fields choices) 0 →
      trees_at_once theory w fields p choices ≡ []
  none_there fields p choices e = by_ways (choices_at_once fields choices) e
    where
      by_ways : (ways : List (List (List Slot))) → None ≡ slice_get ways 0 → flat_map (λ own. trees_of theory w p own) ways ≡ []
      by_ways [] e = refl
      by_ways (x ∷ xs) e = cc

  pub none_counted : (fields : List OpenField) (p : Plan) (choices : List (List Slot)) → None ≡ slice_get (choices_at_once fields choices) 0
      →
      0 ≡ counted (length (trees_at_once theory w fields p choices))
  none_counted fields p choices e = sym (ap (λ z. counted (length z)) (none_there fields p choices e))

  pub at_none : (fields : List OpenField) (p : Plan) (choices : List (List Slot)) (n : ℕ) →
      None ≡ slice_get (choices_at_once fields choices) 0 → None ≡ slice_get (trees_at_once theory w fields p choices) n
  at_none fields p choices n e = sym (ap (λ z. slice_get z n) (none_there fields p choices e))

  pub together_counted : (p q : Plan) (slots : List (List Slot)) (l r k : ℕ) → l ≡ counted (length (trees_of theory w p slots)) →
      r ≡ counted (length (trees_of theory w q slots)) → k ≡ counted (l * r) →
      k ≡ counted (length (trees_of theory w (together p q) slots))
  together_counted p q slots l r k a b c =
      c
      ∙ capped_both most l r (length (trees_of theory w p slots)) (length (trees_of theory w q slots)) a b
      ∙ sym (ap counted (fronts_count both (trees_of theory w q slots) (trees_of theory w p slots)))

pub mapped_none : {A B : Type 0} (f : A → B) (xs : List A) (n : ℕ) → None ≡ slice_get xs n → None ≡ slice_get (map f xs) n
mapped_none f xs n e = sym (slice_get-map f xs n ∙ ap (option_map f) (sym e))

pub mapped_some : {A B : Type 0} (f : A → B) (xs : List A) (n : ℕ) (x : A) (y : B) → Some x ≡ slice_get xs n → y ≡ f x →
    Some y ≡ slice_get (map f xs) n
mapped_some f xs n x y e g = ap Some g ∙ sym (slice_get-map f xs n ∙ ap (option_map f) (sym e))
