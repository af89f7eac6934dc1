-- What searches find is among the trees where they look.
use Rattle.std.proofs.Common.{◌≡◌, inl, inr, List, [], ◌∷◌, map, refl, subst, Option, Some, None, option_map}
use Rattle.std.proofs.Common.{Bool, true, false, if◌then◌else◌}
use Rattle.std.proofs.lemmas.Bool.{not-true}
use Rattle.spec_core.specs.Lists.{IsOneOf}
use Rattle.spec_core.specs.Theories.{Theory}
use Rattle.spec_core.proofs.Members.{from_filter, from_flat_map}
use Rattle.rule_model.specs.Derivations.{Derivation}
use Rattle.symbolic_rules.specs.Windows.{Windows}
use Rattle.symbolic_rules.specs.Trees.{has_mark}
use Rattle.decision_trees.specs.Known.{where_known}
use Rattle.decision_trees.specs.Rules.{meeting, any, unseen, beyond, any_beyond, beyond_or_unseen}
use Rattle.decision_trees.specs.Gaps.{OrGap, element, gap, first_known, all_known}
use Rattle.symbolic_composites.specs.OpenFields.{choices_at_once}
use Rattle.symbolic_plans.specs.Plans.{trees_of}
use Rattle.symbolic_plans.specs.OpenPlans.{OpenPlan}
use Rattle.candidate_laws.specs.Asked.{TreeQuery}
use Rattle.symbolic_trees.specs.Numbers.{trees_at_once}
use Rattle.candidate_search.specs.Searches.{for_offer, is_wanted, slots_asked, trees_searched, asked_from}
use Rattle.node_trees.specs.Shapes.{Shape}
use Rattle.candidate_composites.specs.Known.{known_plans, sought_plans}
use Rattle.candidate_count.proofs.Placed.{sought_plans_are_known}
use Rattle.candidates.specs.Listed.{kinds_sought, tree_verdict, known_trees}
use Rattle.board_laws.specs.Complete.{AsksUnmarked, IsSearched}
use Rattle.board_laws.specs.FollowedLaws.{FoundTreesAreSearched}
use Rattle.board_laws.proofs.FollowedLists.{from_some, from_elements, from_places}
use Rattle.board_laws.proofs.FollowedParts.{IsTreeIn}

module _ {A : Type 0} (verdict : A → Option Bool) where
  first_is : (l : List (OrGap A)) (x : A) → first_known verdict l ≡ Some (Some x) → IsOneOf (element x) l
  first_is [] x h = let no : ⊥ = cc in absurd no
  first_is (gap g ∷ l) x h = let no : ⊥ = cc in absurd no
  first_is (element a ∷ l) x h = by_verdict (verdict a) (λ e. first_is l x e) h
    where
      by_verdict : (o : Option Bool) → (first_known verdict l ≡ Some (Some x) → IsOneOf (element x) l) →
          where_known o (λ holds. if holds then Some (Some a) else first_known verdict l) ≡ Some (Some x) →
          IsOneOf (element x) (element a ∷ l)
      by_verdict None others e = let no : ⊥ = cc in absurd no
      by_verdict (Some true) others e = let same : element x ≡ element a = cc in inl same
      by_verdict (Some false) others e = inr (others e)

  all_are : (l : List (OrGap A)) (xs : List A) (x : A) → all_known verdict l ≡ Some xs → IsOneOf x xs → IsOneOf (element x) l
  all_are [] xs x h i = let none : xs ≡ [] = cc in absurd (subst (IsOneOf x) none i)
  all_are (gap g ∷ l) xs x h i = let no : ⊥ = cc in absurd no
  all_are (element a ∷ l) xs x h i = by_verdict (verdict a) (λ ys e k. all_are l ys x e k) h
    where
      by_place : (ys : List A) → (IsOneOf x ys → IsOneOf (element x) l) → IsOneOf x (a ∷ ys) → IsOneOf (element x) (element a ∷ l)
      by_place ys others (inl e) = let same : element x ≡ element a = cc in inl same
      by_place ys others (inr k) = inr (others k)

      one_more : ((ys : List A) → all_known verdict l ≡ Some ys → IsOneOf x ys → IsOneOf (element x) l) → (o : Option (List A)) →
          all_known verdict l ≡ o → option_map (λ ys. a ∷ ys) o ≡ Some xs → IsOneOf (element x) (element a ∷ l)
      one_more others None e k = let no : ⊥ = cc in absurd no
      one_more others (Some ys) e k =
          let same : xs ≡ a ∷ ys = cc in by_place ys (λ z. others ys e z) (subst (IsOneOf x) same i)

      by_verdict : (o : Option Bool) → ((ys : List A) → all_known verdict l ≡ Some ys → IsOneOf x ys → IsOneOf (element x) l) →
          where_known o (λ holds. if holds then option_map (λ ys. a ∷ ys) (all_known verdict l) else all_known verdict l) ≡ Some xs →
          IsOneOf (element x) (element a ∷ l)
      by_verdict None others e = let no : ⊥ = cc in absurd no
      by_verdict (Some true) others e = one_more others (all_known verdict l) refl e
      by_verdict (Some false) others e = inr (others xs e i)

module _ (theory : Theory) (w : Windows) (t : Shape) (q : TreeQuery) (d : Derivation) where
  -- a plan among whose trees searches look, and find it
  record IsLookedAt : Type 0 where
    plan : OpenPlan
    known : IsOneOf (element plan) (known_plans theory t)
    wanted : IsOneOf d (asked_from theory w (for_offer q) plan 0)

  looked_at : IsSearched theory w t q d → IsLookedAt
  looked_at h =
      let v = kinds_sought (for_offer q) in
      let r = from_places (λ p. map element (asked_from theory w (for_offer q) p 0)) d (sought_plans theory t v) h in
      record {
        plan = r.0;
        known = sought_plans_are_known theory t v (element r.0) r.1;
        wanted = from_elements d (asked_from theory w (for_offer q) r.0 0) r.2;
      }

  -- it is a tree of a known plan
  pub searched_is_in : IsSearched theory w t q d → IsTreeIn theory w (known_plans theory t) d
  searched_is_in h =
      let l = looked_at h in
      let p = l.plan in
      let f = from_filter (is_wanted (for_offer q)) d (trees_searched theory w (for_offer q) p) l.wanted in
      let o = from_some (slots_asked theory w (for_offer q) p) (λ choices. trees_at_once theory w p.fields p.plan choices) d f.0 in
      let r = from_flat_map (λ own. trees_of theory w p.plan own) (choices_at_once p.fields o.0) d o.1 in
      record { plan = p; slots = r.0; known = l.known; tree = r.2 }

  searched_is_wanted : IsSearched theory w t q d → is_wanted (for_offer q) d ≡ true
  searched_is_wanted h =
      let l = looked_at h in
      (from_filter (is_wanted (for_offer q)) d (trees_searched theory w (for_offer q) l.plan) l.wanted).1

wanted_unmarked : (q : TreeQuery) (d : Derivation) → AsksUnmarked q → is_wanted (for_offer q) d ≡ true → has_mark d ≡ false
wanted_unmarked (meeting p) d u e = not-true (has_mark d) e
wanted_unmarked any d u e = not-true (has_mark d) e
wanted_unmarked unseen d u e = not-true (has_mark d) e
wanted_unmarked (beyond p) d u e = absurd u
wanted_unmarked any_beyond d u e = absurd u
wanted_unmarked (beyond_or_unseen p) d u e = absurd u

pub found_trees_are_searched : FoundTreesAreSearched
found_trees_are_searched theory w pieces t q d = record {
  first = λ h. first_is (tree_verdict theory w pieces t q) (known_trees theory w t q) d h;
  all = λ ds h i. all_are (tree_verdict theory w pieces t q) (known_trees theory w t q) ds d h i;
  unmarked = λ u h. wanted_unmarked q d u (searched_is_wanted theory w t q d h);
}
