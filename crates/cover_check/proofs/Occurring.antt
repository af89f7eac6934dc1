-- The variables of a group's premises stand in its left side.
use Rattle.std.proofs.Common.{ℕ, ◌≡◌, List, [], ◌∷◌, map, refl, sym, ap, subst, inl, inr}
use Rattle.spec_core.specs.Lists.{Each, OneOf, IsOneOf}
use Rattle.spec_core.specs.Terms.{TermTree, TermTrees, variable, apply, no_terms, and_term, instance, instances, Occurs, OccursInAny}
use Rattle.spec_core.specs.Theories.{Premise, premise, ConditionalEquation, Theory, OccursInPremises}
use Rattle.spec_core.specs.Orthogonality.{HasNoLooseVariables, renamed}
use Rattle.spec_core.specs.Cover.{IsGroup, IsOfGroup}

module _ (r : ℕ → ℕ) where
  abbrev under : TermTree → TermTree
  under t = instance (λ x. variable (r x)) t

  mutual
    came_from : (t : TermTree) (x : ℕ) → Occurs x (under t) → (y : ℕ) × Occurs y t × (x ≡ r y)
    came_from (variable z) x o = (z, refl, o)
    came_from (apply f ts) x o = all_came_from ts x o

    all_came_from : (ts : TermTrees) (x : ℕ) → OccursInAny x (instances (λ x. variable (r x)) ts) → (y : ℕ) × OccursInAny y ts × (x ≡ r y)
    all_came_from no_terms x o = absurd o
    all_came_from (and_term t ts) x (inl o) = let k = came_from t x o in (k.0, inl k.1, k.2)
    all_came_from (and_term t ts) x (inr o) = let k = all_came_from ts x o in (k.0, inr k.1, k.2)

  mutual
    goes_to : (t : TermTree) (y : ℕ) → Occurs y t → Occurs (r y) (under t)
    goes_to (variable z) y o = ap r o
    goes_to (apply f ts) y o = all_go_to ts y o

    all_go_to : (ts : TermTrees) (y : ℕ) → OccursInAny y ts → OccursInAny (r y) (instances (λ x. variable (r x)) ts)
    all_go_to no_terms y o = absurd o
    all_go_to (and_term t ts) y (inl o) = inl (goes_to t y o)
    all_go_to (and_term t ts) y (inr o) = inr (all_go_to ts y o)

  premises_from : (ps : List Premise) (x : ℕ) → OccursInPremises x (map (renamed r) ps) → (y : ℕ) × OccursInPremises y ps × (x ≡ r y)
  premises_from [] x o = absurd o
  premises_from (premise a b ∷ ps) x (inl o) = let k = came_from a x o in (k.0, inl k.1, k.2)
  premises_from (premise a b ∷ ps) x (inr (inl o)) = let k = came_from b x o in (k.0, inr (inl k.1), k.2)
  premises_from (premise a b ∷ ps) x (inr (inr o)) = let k = premises_from ps x o in (k.0, inr (inr k.1), k.2)

module _ (theory : Theory) (l : TermTree) (closed : Each HasNoLooseVariables theory.equations) where
  in_one : (ps : List Premise) (e : ConditionalEquation) → HasNoLooseVariables e → IsOfGroup l ps e → (x : ℕ) → OccursInPremises x ps →
      Occurs x l
  in_one ps e h g x o =
      let k = premises_from g.0 e.premises x (subst (OccursInPremises x) g.2 o) in
      subst (λ z. Occurs z l) (sym k.2) (subst (Occurs (g.0 k.0)) g.1 (goes_to g.0 e.left k.0 (h.premises k.0 k.1)))

  in_some : (es : List ConditionalEquation) → Each HasNoLooseVariables es → (ps : List Premise) → OneOf (IsOfGroup l ps) es → (x : ℕ) →
      OccursInPremises x ps → Occurs x l
  in_some [] h ps o x i = absurd o
  in_some (e ∷ es) h ps (inl g) x i = in_one ps e h.0 g x i
  in_some (e ∷ es) h ps (inr o) x i = in_some es h.1 ps o x i

  pub group_occurs : (lists : List (List Premise)) → IsGroup theory l lists → (ps : List Premise) → IsOneOf ps lists → (x : ℕ) →
      OccursInPremises x ps → Occurs x l
  group_occurs lists g ps o = in_some theory.equations closed ps (from lists g.from_equations o)
    where
      from : (ls : List (List Premise)) → Each (λ qs. OneOf (IsOfGroup l qs) theory.equations) ls → IsOneOf ps ls →
          OneOf (IsOfGroup l ps) theory.equations
      from [] h o = absurd o
      from (q ∷ qs) h (inl e) = subst (λ y. OneOf (IsOfGroup l y) theory.equations) (sym e) h.0
      from (q ∷ qs) h (inr o) = from qs h.1 o
