-- The order by those that depend on an operation is the path order.
use Rattle.std.proofs.Common.{ℕ, zero, suc, ◌≡◌, List, [], ◌∷◌, refl, sym, ap, subst, inl, inr, ◌⊎◌, ◌∙◌}
use Rattle.spec_core.specs.Lists.{Each, OneOf, IsOneOf}
use Rattle.spec_core.specs.Terms.{TermTree, TermTrees, variable, apply, no_terms, and_term}
use Rattle.spec_core.specs.Theories.{Theory, ConditionalEquation, Heads}
use Rattle.spec_core.specs.Constructors.{HeadsNone, IsMarked, IsConstructor}
use Rattle.spec_core.specs.Order.{IsSmaller, HasOperation, AnyHasOperation, PremisesHaveOperation, DependsOn, itself, onward, IsAbove, IsLevel, IsBelow, AreBelow, Decreases}
use Rattle.path_order.specs.Below.{IsBelowBy, AreBelowBy}
use Rattle.path_order.specs.Mentioning.{AreDependents}
use Rattle.path_order.specs.Decrease.{IsFirstNot, IsDecreasingAt, sides}
use Rattle.path_order.proofs.Asked.{has_side, first_alike, each_alike, decreases}
use Rattle.path_order.proofs.Depending.{at_one_of, heads_one}

abbrev Tells : Type 0 → Type 0
Tells A = A ⊎ (A → ⊥)

same_or_not : (a b : ℕ) → Tells (a ≡ b)
same_or_not zero zero = inl refl
same_or_not zero (suc b) = inr (λ h. cc)
same_or_not (suc a) zero = inr (λ h. cc)
same_or_not (suc a) (suc b) = elim (same_or_not a b) [ inl e ↦ inl (ap suc e) | inr n ↦ inr (λ h. n cc) ]

in_or_not : (g : ℕ) (all : List ℕ) → Tells (IsOneOf g all)
in_or_not g [] = inr (λ i. i)
in_or_not g (h ∷ hs) = elim (same_or_not g h) [
  | inl e ↦ inl (inl e)
  | inr n ↦ elim (in_or_not g hs) [ inl i ↦ inl (inr i) | inr m ↦ inr (λ i. elim i [ inl e ↦ n e | inr o ↦ m o ]) ]
]

heads_some : (theory : Theory) (g : ℕ) → OneOf (Heads g) theory.equations → HeadsNone theory g → ⊥
heads_some theory g o none = go theory.equations o none
  where
    go : (es : List ConditionalEquation) → OneOf (Heads g) es → Each (λ e. Heads g e → ⊥) es → ⊥
    go [] o all = o
    go (e ∷ es) (inl h) all = all.0 h
    go (e ∷ es) (inr o) all = go es o all.1

module _ (theory : Theory) (level : List ℕ) (f : ℕ) (exact : AreDependents theory f level) (headed : OneOf (Heads f) theory.equations) (ps : TermTrees) where
  by_head : (g : ℕ) (ts : TermTrees) → DependsOn theory f g → Tells (IsOneOf g level) →
      (IsOneOf g level → ⊥) ⊎ IsSmaller ts ps ⊎ IsMarked theory g →
      IsConstructor theory g ⊎ IsAbove theory f g ⊎ IsLevel theory f g × IsSmaller ts ps
  by_head g ts d k (inl n) = inr (inl (d, λ e. n ((exact g).1 e)))
  by_head g ts d (inl i) (inr (inl s)) = inr (inr ((d, (exact g).0 i), s))
  by_head g ts d (inr n) (inr (inl s)) = inr (inl (d, λ e. n ((exact g).1 e)))
  by_head g ts d k (inr (inr m)) = inl (inr m)

  back_head : (g : ℕ) (ts : TermTrees) →
      IsConstructor theory g ⊎ IsAbove theory f g ⊎ IsLevel theory f g × IsSmaller ts ps →
      (IsOneOf g level → ⊥) ⊎ IsSmaller ts ps ⊎ IsMarked theory g
  back_head g ts (inl (inl none)) = inl (λ i. heads_some theory g (heads_one theory headed ((exact g).0 i)) none)
  back_head g ts (inl (inr m)) = inr (inr m)
  back_head g ts (inr (inl a)) = inl (λ i. a.1 ((exact g).0 i))
  back_head g ts (inr (inr l)) = inr (inl l.1)

  mutual
    pub below : (t : TermTree) → ((g : ℕ) → HasOperation g t → DependsOn theory f g) → IsBelowBy theory level ps t → IsBelow theory f ps t
    below (variable x) d h = h
    below (apply g ts) d (inl i) = inl i
    below (apply g ts) d (inr h) = inr (are_below ts (λ k o. d k (inr o)) h.0, by_head g ts (d g (inl refl)) (in_or_not g level) h.1)

    pub are_below : (ts : TermTrees) → ((g : ℕ) → AnyHasOperation g ts → DependsOn theory f g) → AreBelowBy theory level ps ts → AreBelow theory f ps ts
    are_below no_terms d h = tt
    are_below (and_term t ts) d h = (below t (λ k o. d k (inl o)) h.0, are_below ts (λ k o. d k (inr o)) h.1)

  mutual
    pub back : (t : TermTree) → IsBelow theory f ps t → IsBelowBy theory level ps t
    back (variable x) h = h
    back (apply g ts) (inl i) = inl i
    back (apply g ts) (inr h) = inr (all_back ts h.0, back_head g ts h.1)

    pub all_back : (ts : TermTrees) → AreBelow theory f ps ts → AreBelowBy theory level ps ts
    all_back no_terms h = tt
    all_back (and_term t ts) h = (back t h.0, all_back ts h.1)

  side_forth : (e : ConditionalEquation) → IsOneOf e theory.equations → e.left ≡ apply f ps → (t : TermTree) →
      IsOneOf t (sides e) → IsBelowBy theory level ps t → IsBelow theory f ps t
  side_forth e o l t i h =
      let mentioned : (g : ℕ) → HasOperation g t → DependsOn theory f g = λ g m. onward f g g
      (at_one_of (λ e. Heads f e × (HasOperation g e.left ⊎ HasOperation g e.right ⊎ PremisesHaveOperation g e.premises)) e theory.equations o
      ((ps, l), inr (has_side g e.premises e.right t i m))) (itself g) in
      below t mentioned h

  -- what is found by them is what the path order says
  pub decreasing_by : (e : ConditionalEquation) → IsOneOf e theory.equations → e.left ≡ apply f ps →
      Each (IsBelowBy theory level ps) (sides e) → IsDecreasingAt theory e
  decreasing_by e o l h g qs k =
      let same : apply f ps ≡ apply g qs = sym l ∙ k in
      let a : f ≡ g = cc in
      let b : ps ≡ qs = cc in
      subst (λ g. Decreases theory g qs e) a (subst (λ rs. Decreases theory f rs e) b
      (decreases theory f ps e (each_alike (IsBelowBy theory level ps) (IsBelow theory f ps) (sides e) (side_forth e o l) h)))

  pub first_by : (e : ConditionalEquation) → IsOneOf e theory.equations → e.left ≡ apply f ps → (t : TermTree) →
      IsFirstNot (IsBelowBy theory level ps) (sides e) t → IsFirstNot (IsBelow theory f ps) (sides e) t
  first_by e o l t h =
      first_alike (IsBelowBy theory level ps) (IsBelow theory f ps) (sides e) t (side_forth e o l) (λ u i. back u) h
