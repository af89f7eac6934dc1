-- What a search looks through holds the trees that its query may ask for.
use Rattle.std.proofs.Common.{◌≡◌, ◌++◌, ◌∙◌, List, [], ◌∷◌, map, filter, flat_map, refl, sym, ap, Option, Some, None}
use Rattle.std.proofs.Common.{Bool, true, false, cond, not, ◌&&◌, ◌||◌, if◌then◌else◌}
use Rattle.std.specs.Prelude.{option_map}
use Rattle.std.proofs.lemmas.List.Elements.{filter-append, filter_agree}
use Rattle.spec_core.specs.Theories.{Theory}
use Rattle.spec_core.proofs.Lists.{filter_none, flat_map_same}
use Rattle.spec_core.proofs.Booleans.{or_true}
use Rattle.rule_model.specs.declared.offer.Field.{Field}
use Rattle.rule_model.specs.declared.offer.Offer.{Offer}
use Rattle.rule_model.specs.declared.rules.Slot.{Slot}
use Rattle.rule_model.specs.Actions.{at_gate}
use Rattle.rule_model.specs.Derivations.{Derivation}
use Rattle.symbolic_rules.specs.Windows.{Windows}
use Rattle.symbolic_rules.specs.Trees.{has_mark}
use Rattle.decision_trees.specs.Rules.{meeting, any, unseen, beyond, any_beyond, beyond_or_unseen}
use Rattle.symbolic_composites.specs.Kinds.{same_kind}
use Rattle.symbolic_composites.specs.OpenFields.{OpenField, all_choices, any_marked, given_in, one_each, choices_at_once}
use Rattle.symbolic_composites.specs.Composites.{from_option}
use Rattle.symbolic_plans.specs.Plans.{trees_of}
use Rattle.symbolic_plans.specs.OpenPlans.{OpenPlan, composite_of}
use Rattle.candidate_laws.proofs.Lists.{flat_none, filter_flat}
use Rattle.candidate_laws.specs.Waiting.{is_unseen, may_meet, all_may_meet, may_take}
use Rattle.symbolic_trees.specs.Numbers.{trees_at_once}
use Rattle.candidate_search.specs.Searches.{each_meeting, all_meeting, slots_taking}
use Rattle.candidate_search.specs.Laws.{SearchesFindAll}

and_true : (b : Bool) → b && true ≡ b
and_true true = refl
and_true false = refl

and_false : (b : Bool) → b && false ≡ false
and_false true = refl
and_false false = refl

or_false : (b : Bool) → b || false ≡ b
or_false true = refl
or_false false = refl

pub filter_all : {A : Type 0} (xs : List A) → filter (λ x. true) xs ≡ xs
filter_all [] = refl
filter_all (x ∷ xs) = ap (λ z. x ∷ z) (filter_all xs)

-- a test of the pieces before one of their elements
filter_pieces : {A B : Type 0} (f : B → Bool) (t : A → Bool) (g : A → List B) (xs : List A) →
    flat_map (λ x. filter (λ d. f d && t x) (g x)) xs ≡ filter f (flat_map g (filter t xs))
filter_pieces f t g [] = refl
filter_pieces f t g (x ∷ xs) =
    ap (λ z. filter (λ d. f d && t x) (g x) ++ z) (filter_pieces f t g xs) ∙ by_test (t x)
  where
    by_test : (b : Bool) → filter (λ d. f d && b) (g x) ++ filter f (flat_map g (filter t xs)) ≡
        filter f (flat_map g (cond b (x ∷ filter t xs) (filter t xs)))
    by_test true =
        ap (λ z. z ++ filter f (flat_map g (filter t xs))) (filter_agree (λ d. f d && true) f (λ d. and_true (f d)) (g x))
        ∙ sym (filter-append f (g x) (flat_map g (filter t xs)))
    by_test false =
        ap (λ z. z ++ filter f (flat_map g (filter t xs))) (filter_none (λ d. f d && false) (g x) (λ d. and_false (f d)))

-- where a pair passes by both of its parts
filter_pairs : {A B C : Type 0} (t : C → Bool) (m : A → Bool) (k : B → Bool) (pair : A → B → C) (xs : List A) (ys : List B) →
    ((a : A) (b : B) → t (pair a b) ≡ m a && k b) →
    filter t (flat_map (λ a. map (pair a) ys) xs) ≡ flat_map (λ a. map (pair a) (filter k ys)) (filter m xs)
filter_pairs {A = A} {B = B} {C = C} t m k pair xs ys e = over xs
  where
    with_one : (a : A) (b : Bool) → m a ≡ b → (zs : List B) → filter t (map (pair a) zs) ≡ cond b (map (pair a) (filter k zs)) []
    with_one a true h [] = refl
    with_one a false h [] = refl
    with_one a true h (z ∷ zs) =
        ap (λ v. cond v (pair a z ∷ filter t (map (pair a) zs)) (filter t (map (pair a) zs))) (e a z ∙ ap (λ v. v && k z) h)
        ∙ ap (λ v. cond (k z) (pair a z ∷ v) v) (with_one a true h zs)
        ∙ kept (k z)
      where
        kept : (b : Bool) → cond b (pair a z ∷ map (pair a) (filter k zs)) (map (pair a) (filter k zs)) ≡
            map (pair a) (cond b (z ∷ filter k zs) (filter k zs))
        kept true = refl
        kept false = refl
    with_one a false h (z ∷ zs) =
        ap (λ v. cond v (pair a z ∷ filter t (map (pair a) zs)) (filter t (map (pair a) zs))) (e a z ∙ ap (λ v. v && k z) h)
        ∙ with_one a false h zs

    over : (xs : List A) → filter t (flat_map (λ a. map (pair a) ys) xs) ≡ flat_map (λ a. map (pair a) (filter k ys)) (filter m xs)
    over [] = refl
    over (x ∷ xs) =
        filter-append t (map (pair x) ys) (flat_map (λ a. map (pair a) ys) xs)
        ∙ ap (λ z. filter t (map (pair x) ys) ++ z) (over xs)
        ∙ ap (λ z. z ++ flat_map (λ a. map (pair a) (filter k ys)) (filter m xs)) (with_one x (m x) refl ys)
        ∙ kept (m x)
      where
        kept : (b : Bool) → cond b (map (pair x) (filter k ys)) [] ++ flat_map (λ a. map (pair a) (filter k ys)) (filter m xs) ≡
            flat_map (λ a. map (pair a) (filter k ys)) (cond b (x ∷ filter m xs) (filter m xs))
        kept true = refl
        kept false = refl

flat_option : {A B C : Type 0} (g : B → List C) (o : Option A) (h : A → List B) →
    flat_map g (from_option o h) ≡ from_option o (λ a. flat_map g (h a))
flat_option g None h = refl
flat_option g (Some a) h = refl

module _ (theory : Theory) where
  -- of one slot for each field, those that meet an offer's fields
  meeting_each : (fs : List OpenField) (choices : List (List Slot)) (fields : List Field) →
      filter (λ slots. all_may_meet theory fs slots fields) (one_each choices) ≡
      from_option (each_meeting theory fs choices fields) (λ others. one_each others)
  meeting_each [] choices [] = filter_all (one_each choices)
  meeting_each [] choices (field ∷ fields) = filter_none (λ slots. false) (one_each choices) (λ slots. refl)
  meeting_each (f ∷ fs) [] [] = refl
  meeting_each (f ∷ fs) [] (field ∷ fields) = refl
  meeting_each (f ∷ fs) (slots ∷ choices) [] =
      filter_pairs (λ own. all_may_meet theory (f ∷ fs) own []) (λ slot. false) (λ others. false) (λ slot others. (slot ∷ []) ∷ others)
      slots (one_each choices) (λ slot others. refl)
      ∙ ap (flat_map (λ slot. map (λ others. (slot ∷ []) ∷ others) (filter (λ others. false) (one_each choices))))
      (filter_none (λ slot. false) slots (λ slot. refl))
  meeting_each (f ∷ fs) (slots ∷ choices) (field ∷ fields) =
      filter_pairs (λ own. all_may_meet theory (f ∷ fs) own (field ∷ fields)) (λ slot. may_meet theory f (slot ∷ []) field)
      (λ others. all_may_meet theory fs others fields) (λ slot others. (slot ∷ []) ∷ others) slots (one_each choices)
      (λ slot others. refl)
      ∙ ap (λ z. flat_map (λ slot. map (λ others. (slot ∷ []) ∷ others) z) (filter (λ slot. may_meet theory f (slot ∷ []) field) slots))
      (meeting_each fs choices fields)
      ∙ by_option (each_meeting theory fs choices fields)
    where
      by_option : (o : Option (List (List Slot))) →
          flat_map (λ slot. map (λ others. (slot ∷ []) ∷ others) (from_option o (λ others. one_each others)))
          (filter (λ slot. may_meet theory f (slot ∷ []) field) slots) ≡
          from_option (option_map (λ others. filter (λ slot. may_meet theory f (slot ∷ []) field) slots ∷ others) o)
          (λ others. one_each others)
      by_option None = flat_none (λ slot. []) (filter (λ slot. may_meet theory f (slot ∷ []) field) slots) (λ slot. refl)
      by_option (Some others) = refl

  meeting_all : (fs : List OpenField) (choices : List (List Slot)) (fields : List Field) →
      filter (λ slots. all_may_meet theory fs slots fields) (choices_at_once fs choices) ≡
      from_option (all_meeting theory fs choices fields) (choices_at_once fs)
  meeting_all fs choices fields = by_mark (any_marked fs)
    where
      by_test : (b : Bool) → cond b (choices ∷ []) [] ≡ from_option (if b then Some choices else None) (λ own. own ∷ [])
      by_test true = refl
      by_test false = refl

      by_mark : (b : Bool) →
          filter (λ slots. all_may_meet theory fs slots fields) (if b then choices ∷ [] else one_each choices) ≡
          from_option (if b then (if all_may_meet theory fs choices fields then Some choices else None) else each_meeting theory fs choices
          fields)
          (λ own. if b then own ∷ [] else one_each own)
      by_mark true = by_test (all_may_meet theory fs choices fields)
      by_mark false = meeting_each fs choices fields

module _ (theory : Theory) (w : Windows) (p : OpenPlan) where
  taking_all : (offer : Offer) →
      filter (may_take theory offer (composite_of theory w p)) (choices_at_once p.fields
      (all_choices theory w (given_in offer.fields) p.fields)) ≡
      from_option (slots_taking theory w offer p) (choices_at_once p.fields)
  taking_all offer = by_kind (same_kind p.kind (at_gate offer.gate.0))
    where
      choices : List (List Slot)
      choices = all_choices theory w (given_in offer.fields) p.fields

      by_kind : (b : Bool) →
          filter (λ slots. b && all_may_meet theory p.fields slots offer.fields) (choices_at_once p.fields choices) ≡
          from_option (if b then all_meeting theory p.fields choices offer.fields else None) (choices_at_once p.fields)
      by_kind true = meeting_all theory p.fields choices offer.fields
      by_kind false = filter_none (λ slots. false) (choices_at_once p.fields choices) (λ slots. refl)

  -- the trees with marks, or those without, with which an action may meet the offer
  takes_those : (f : Derivation → Bool) (offer : Offer) →
      flat_map (λ slots. filter (λ d. f d && may_take theory offer (composite_of theory w p) slots) (trees_of theory w p.plan slots))
      (choices_at_once p.fields (all_choices theory w (given_in offer.fields) p.fields)) ≡
      filter f (from_option (slots_taking theory w offer p) (λ own. trees_at_once theory w p.fields p.plan own))
  takes_those f offer =
      filter_pieces f (may_take theory offer (composite_of theory w p)) (trees_of theory w p.plan)
      (choices_at_once p.fields (all_choices theory w (given_in offer.fields) p.fields))
      ∙ ap (λ z. filter f (flat_map (trees_of theory w p.plan) z)) (taking_all offer)
      ∙ ap (filter f) (flat_option (trees_of theory w p.plan) (slots_taking theory w offer p) (choices_at_once p.fields))

  -- the same, where a test of the composite alone decides
  where_so : (f : Derivation → Bool) (b : Bool) (xs : List (List (List Slot))) →
      flat_map (λ slots. filter (λ d. f d && b) (trees_of theory w p.plan slots)) xs ≡
      filter f (flat_map (trees_of theory w p.plan) (if b then xs else []))
  where_so f b xs = filter_pieces f (λ slots. b) (trees_of theory w p.plan) xs ∙ ap (λ z. filter f (flat_map (trees_of theory w p.plan) z))
      (by_test b xs)
    where
      by_test : (b : Bool) (xs : List (List (List Slot))) → filter (λ slots. b) xs ≡ (if b then xs else [])
      by_test true [] = refl
      by_test false [] = refl
      by_test true (x ∷ xs) = ap (λ z. x ∷ z) (by_test true xs)
      by_test false (x ∷ xs) = by_test false xs

  unseen_those : (b : Bool) →
      flat_map (λ slots. filter (λ d. not (has_mark d) && b) (trees_of theory w p.plan slots))
      (choices_at_once p.fields (all_choices theory w [] p.fields)) ≡
      filter (λ d. not (has_mark d))
      (from_option (if b then Some (all_choices theory w [] p.fields) else None) (λ own. trees_at_once theory w p.fields p.plan own))
  unseen_those true = where_so (λ d. not (has_mark d)) true (choices_at_once p.fields (all_choices theory w [] p.fields))
  unseen_those false = where_so (λ d. not (has_mark d)) false (choices_at_once p.fields (all_choices theory w [] p.fields))

  beyond_those : (offer : Offer) (b : Bool) →
      flat_map (λ slots. filter (λ d. has_mark d && (may_take theory offer (composite_of theory w p) slots || b))
      (trees_of theory w p.plan slots))
      (choices_at_once p.fields (all_choices theory w (given_in offer.fields) p.fields)) ≡
      filter has_mark
      (from_option (if b then Some (all_choices theory w (given_in offer.fields) p.fields) else slots_taking theory w offer p)
      (λ own. trees_at_once theory w p.fields p.plan own))
  beyond_those offer true =
      flat_tests (λ slots. or_true (may_take theory offer (composite_of theory w p) slots))
      ∙ where_so has_mark true (choices_at_once p.fields (all_choices theory w (given_in offer.fields) p.fields))
    where
      flat_tests : ((slots : List (List Slot)) → may_take theory offer (composite_of theory w p) slots || true ≡ true) →
          flat_map (λ slots. filter (λ d. has_mark d && (may_take theory offer (composite_of theory w p) slots || true))
          (trees_of theory w p.plan slots))
          (choices_at_once p.fields (all_choices theory w (given_in offer.fields) p.fields)) ≡
          flat_map (λ slots. filter (λ d. has_mark d && true) (trees_of theory w p.plan slots))
          (choices_at_once p.fields (all_choices theory w (given_in offer.fields) p.fields))
      flat_tests e =
          flat_map_same (λ slots. filter (λ d. has_mark d && (may_take theory offer (composite_of theory w p) slots || true))
          (trees_of theory w p.plan slots))
          (λ slots. filter (λ d. has_mark d && true) (trees_of theory w p.plan slots))
          (choices_at_once p.fields (all_choices theory w (given_in offer.fields) p.fields))
          (λ slots. ap (λ b. filter (λ d. has_mark d && b) (trees_of theory w p.plan slots)) (e slots))
  beyond_those offer false =
      flat_map_same (λ slots. filter (λ d. has_mark d && (may_take theory offer (composite_of theory w p) slots || false))
      (trees_of theory w p.plan slots))
      (λ slots. filter (λ d. has_mark d && may_take theory offer (composite_of theory w p) slots) (trees_of theory w p.plan slots))
      (choices_at_once p.fields (all_choices theory w (given_in offer.fields) p.fields))
      (λ slots. ap (λ b. filter (λ d. has_mark d && b) (trees_of theory w p.plan slots))
      (or_false (may_take theory offer (composite_of theory w p) slots)))
      ∙ takes_those has_mark offer

pub searches_find_all : SearchesFindAll
searches_find_all theory w (meeting q) p = sym (takes_those theory w p (λ d. not (has_mark d)) q.offer)
searches_find_all theory w any p =
    sym (filter_flat (λ d. not (has_mark d)) (trees_of theory w p.plan) (choices_at_once p.fields (all_choices theory w [] p.fields)))
searches_find_all theory w unseen p = sym (unseen_those theory w p (is_unseen p.kind))
searches_find_all theory w (beyond q) p = sym (takes_those theory w p has_mark q.offer)
searches_find_all theory w any_beyond p =
    sym (filter_flat has_mark (trees_of theory w p.plan) (choices_at_once p.fields (all_choices theory w [] p.fields)))
searches_find_all theory w (beyond_or_unseen q) p = sym (beyond_those theory w p q.offer (is_unseen p.kind))
