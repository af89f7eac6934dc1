-- What is found in a front of a list that waits stands first among all that holds of the whole list.
use Rattle.std.proofs.Common.{◌≡◌, ◌++◌, ◌∙◌, List, [], ◌∷◌, filter, refl, sym, ap, subst, Option, Some, None, option_map, Bool}
use Rattle.std.proofs.Common.{true, false, cond, if◌then◌else◌}
use Rattle.decision_trees.specs.Decisions.{Answers}
use Rattle.decision_trees.specs.Known.{Extends, Knowledge, known_or, unless_known, where_known}
use Rattle.decision_trees.specs.Lazy.{Lazy, nil, cons, waits, whole}
use Rattle.decision_trees.specs.Gaps.{OrGap, element, gap, all_known, with_gaps}

-- these stand first among all, and are all of them where nothing is left
pub record IsFront {A B : Type 0} (left : List B) (xs all : List A) : Type 0 where
  pub others : List A
  pub parts : all ≡ xs ++ others
  pub all_of_them : left ≡ [] → others ≡ []

module _ {I A : Type 0} (known : Knowledge I A) (s : Answers I A) (extends : Extends s known) where
  -- all that holds of the whole list
  abbrev held : Lazy I A → List A
  held l = filter s.verdict (whole s l)

  -- a list without elements and gaps is empty
  none_left : (l : Lazy I A) → with_gaps known.items l ≡ [] → whole s l ≡ []
  none_left nil e = refl
  none_left (cons a l) e = let never : ⊥ = cc in absurd never
  none_left (waits g k) e = by_items (known.items g) refl e (λ xs. none_left (k xs))
    where
      by_items : (o : Option (List I)) → known.items g ≡ o → unless_known o (gap g) (with_gaps known.items (k (known_or o []))) ≡ [] →
          ((xs : List I) → with_gaps known.items (k xs) ≡ [] → whole s (k xs) ≡ []) → whole s (k (s.items g)) ≡ []
      by_items None f h below = let never : ⊥ = cc in absurd never
      by_items (Some is) f h below = ap (λ (z : List I). whole s (k z)) (extends.items g is f) ∙ below is h

  at_start : (l : Lazy I A) (left : List (OrGap A)) (xs : List A) → with_gaps known.items l ≡ left → all_known known.verdict [] ≡ Some xs →
      IsFront left xs (held l)
  at_start l left xs e h =
      let none : [] ≡ xs = cc in record {
        others = held l;
        parts = ap (λ (z : List A). z ++ held l) none;
        all_of_them = λ f. ap (filter s.verdict) (none_left l (e ∙ f));
      }

  -- one more that holds stands before
  one_more : {B : Type 0} (left : List B) (a : A) (xs all : List A) → IsFront left xs all → IsFront left (a ∷ xs) (a ∷ all)
  one_more left a xs all f =
      record { others = f.others; parts = ap (λ (z : List A). a ∷ z) f.parts; all_of_them = f.all_of_them }

  pub front_of : (l : Lazy I A) (passed left : List (OrGap A)) (xs : List A) → with_gaps known.items l ≡ passed ++ left →
      all_known known.verdict passed ≡ Some xs → IsFront left xs (held l)
  front_of l [] left xs e h = at_start l left xs e h
  front_of nil (p ∷ passed) left xs e h = let never : ⊥ = cc in absurd never
  front_of (cons a l) (gap g ∷ passed) left xs e h = let never : ⊥ = cc in absurd never
  front_of (cons a l) (element b ∷ passed) left xs e h =
      let same : a ≡ b = cc in
      let rest : with_gaps known.items l ≡ passed ++ left = cc in
      by_verdict (known.verdict b) refl h (s.verdict a) (ap s.verdict same) same (λ ys k. front_of l passed left ys rest k)
    where
      found : (o : Option (List A)) → all_known known.verdict passed ≡ o → option_map (λ ys. b ∷ ys) o ≡ Some xs → a ≡ b →
          ((ys : List A) → all_known known.verdict passed ≡ Some ys → IsFront left ys (held l)) →
          IsFront left xs (a ∷ held l)
      found None f g same front = let never : ⊥ = cc in absurd never
      found (Some ys) f g same front =
          let is : b ∷ ys ≡ xs = cc in
          subst (λ (z : List A). IsFront left z (a ∷ held l)) (ap (λ (z : A). z ∷ ys) same ∙ is)
          (one_more left a ys (held l) (front ys f))

      by_verdict : (o : Option Bool) → known.verdict b ≡ o →
          where_known o (λ holds.
          if holds then option_map (λ ys. b ∷ ys) (all_known known.verdict passed) else all_known known.verdict passed) ≡ Some xs →
          (holds : Bool) → holds ≡ s.verdict b → a ≡ b →
          ((ys : List A) → all_known known.verdict passed ≡ Some ys → IsFront left ys (held l)) →
          IsFront left xs (cond holds (a ∷ held l) (held l))
      by_verdict None f g holds so same front = let never : ⊥ = cc in absurd never
      by_verdict (Some true) f g holds so same front =
          subst (λ (z : Bool). IsFront left xs (cond z (a ∷ held l) (held l))) (sym (so ∙ extends.verdict b true f))
          (found (all_known known.verdict passed) refl g same front)
      by_verdict (Some false) f g holds so same front =
          subst (λ (z : Bool). IsFront left xs (cond z (a ∷ held l) (held l))) (sym (so ∙ extends.verdict b false f))
          (front xs g)
  front_of (waits g k) (p ∷ passed) left xs e h = by_items (known.items g) refl e (λ is f. front_of (k is) (p ∷ passed) left xs f h)
    where
      by_items : (o : Option (List I)) → known.items g ≡ o →
          unless_known o (gap g) (with_gaps known.items (k (known_or o []))) ≡ p ∷ passed ++ left →
          ((is : List I) → with_gaps known.items (k is) ≡ p ∷ passed ++ left → IsFront left xs (held (k is))) →
          IsFront left xs (held (k (s.items g)))
      by_items None f z below =
          let is : gap g ≡ p = cc in
          let none : all_known known.verdict (gap g ∷ passed) ≡ Some xs =
          ap (λ (y : OrGap A). all_known known.verdict (y ∷ passed)) is ∙ h
          in
          let never : ⊥ = cc in absurd never
      by_items (Some is) f z below =
          subst (λ (y : List I). IsFront left xs (held (k y))) (sym (extends.items g is f))
          (below is z)
