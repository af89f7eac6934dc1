-- The variables of a term are those that stand in it.
use Rattle.std.proofs.Common.{ℕ, List, [], ◌∷◌, ◌++◌, inl, inr, refl, sym, subst}
use Rattle.spec_core.specs.Lists.{Each, IsOneOf}
use Rattle.spec_core.specs.Orthogonality.{IsLinear, AreLinear, HasNoLooseVariables}
use Rattle.spec_core.specs.Terms.{TermTree, TermTrees, variable, apply, no_terms, and_term, Occurs, OccursInAny}
use Rattle.spec_core.specs.Theories.{Premise, premise, ConditionalEquation, OccursInPremises}
use Rattle.spec_core.proofs.Lists.{each_implied}
use Rattle.spec_core.proofs.Members.{each_one, one_left, one_parts, one_right}
use Rattle.equation_faults.specs.Firsts.{IsFirstOf, IsFirstRepeated}
use Rattle.equation_faults.specs.Variables.{variables, all_variables, premises_variables, asked_variables}
use Rattle.equation_sets.proofs.Members.{Distinct, distinct_joined}
use Rattle.equation_sets.proofs.Members.{distinct_left, distinct_right, distinct_apart}

mutual
  pub listed : (x : ℕ) (t : TermTree) → Occurs x t → IsOneOf x (variables t)
  listed x (variable y) o = inl o
  listed x (apply f ts) o = listed_any x ts o

  pub listed_any : (x : ℕ) (ts : TermTrees) → OccursInAny x ts → IsOneOf x (all_variables ts)
  listed_any x no_terms o = o
  listed_any x (and_term t ts) (inl o) = one_left x (variables t) (all_variables ts) (listed x t o)
  listed_any x (and_term t ts) (inr o) = one_right x (variables t) (all_variables ts) (listed_any x ts o)

mutual
  pub occurring : (x : ℕ) (t : TermTree) → IsOneOf x (variables t) → Occurs x t
  occurring x (variable y) (inl e) = e
  occurring x (variable y) (inr o) = absurd o
  occurring x (apply f ts) o = occurring_any x ts o

  pub occurring_any : (x : ℕ) (ts : TermTrees) → IsOneOf x (all_variables ts) → OccursInAny x ts
  occurring_any x no_terms o = o
  occurring_any x (and_term t ts) o = elim (one_parts x (variables t) (all_variables ts) o) [
    | inl a ↦ inl (occurring x t a)
    | inr b ↦ inr (occurring_any x ts b)
  ]

mutual
  pub distinct : (t : TermTree) → IsLinear t → Distinct (variables t)
  distinct (variable x) l = (tt, tt)
  distinct (apply f ts) l = all_distinct ts l

  all_distinct : (ts : TermTrees) → AreLinear ts → Distinct (all_variables ts)
  all_distinct no_terms l = tt
  all_distinct (and_term t ts) l = distinct_joined (variables t) (all_variables ts) (distinct t l.0) (all_distinct ts l.2)
      (λ x o p. l.1 x (occurring x t o) (occurring_any x ts p))

mutual
  pub linear : (t : TermTree) → Distinct (variables t) → IsLinear t
  linear (variable x) d = tt
  linear (apply f ts) d = all_linear ts d

  all_linear : (ts : TermTrees) → Distinct (all_variables ts) → AreLinear ts
  all_linear no_terms d = tt
  all_linear (and_term t ts) d = (
    linear t (distinct_left (variables t) (all_variables ts) d),
    (λ x o p. distinct_apart (variables t) (all_variables ts) d x (listed x t o) (listed_any x ts p)),
    all_linear ts (distinct_right (variables t) (all_variables ts) d),
  )

-- a number that stands twice
pub not_distinct : (xs : List ℕ) (x : ℕ) → IsFirstRepeated xs x → Distinct xs → ⊥
not_distinct xs x r d =
    distinct_apart r.before (x ∷ r.behind) (subst Distinct r.parts d) x r.again (inl refl)

-- the variables of premises
pub listed_premises : (x : ℕ) (ps : List Premise) → OccursInPremises x ps → IsOneOf x (premises_variables ps)
listed_premises x [] o = o
listed_premises x (premise a b ∷ ps) (inl o) =
    one_left x (variables a ++ variables b) (premises_variables ps) (one_left x (variables a) (variables b) (listed x a o))
listed_premises x (premise a b ∷ ps) (inr (inl o)) =
    one_left x (variables a ++ variables b) (premises_variables ps) (one_right x (variables a) (variables b) (listed x b o))
listed_premises x (premise a b ∷ ps) (inr (inr o)) =
    one_right x (variables a ++ variables b) (premises_variables ps) (listed_premises x ps o)

pub occurring_premises : (x : ℕ) (ps : List Premise) → IsOneOf x (premises_variables ps) → OccursInPremises x ps
occurring_premises x [] o = o
occurring_premises x (premise a b ∷ ps) o = elim (one_parts x (variables a ++ variables b) (premises_variables ps) o) [
  | inl k ↦ elim (one_parts x (variables a) (variables b) k) [ inl m ↦ inl (occurring x a m) | inr m ↦ inr (inl (occurring x b m)) ]
  | inr k ↦ inr (inr (occurring_premises x ps k))
]

pub closed : (e : ConditionalEquation) → Each (λ x. IsOneOf x (variables e.left)) (asked_variables e) → HasNoLooseVariables e
closed e h =
    let all : (x : ℕ) → IsOneOf x (asked_variables e) → Occurs x e.left =
    λ x o. occurring x e.left (each_one (λ y. IsOneOf y (variables e.left)) (asked_variables e) x h o) in
    record {
      right = λ x o. all x (one_right x (premises_variables e.premises) (variables e.right) (listed x e.right o));
      premises = λ x o. all x (one_left x (premises_variables e.premises) (variables e.right) (listed_premises x e.premises o));
    }

pub first_loose : (e : ConditionalEquation) (x : ℕ) → IsFirstOf (λ y. IsOneOf y (variables e.left) → ⊥) (asked_variables e) x →
    IsFirstOf (λ y. Occurs y e.left → ⊥) (asked_variables e) x
first_loose e x f = record {
  before = f.before;
  behind = f.behind;
  parts = f.parts;
  holds = λ o. f.holds (listed x e.left o);
  none_before = each_implied (λ y. (IsOneOf y (variables e.left) → ⊥) → ⊥) (λ y. (Occurs y e.left → ⊥) → ⊥) f.before
      (λ y h k. h (λ o. k (occurring y e.left o))) f.none_before;
}

-- a loose variable
pub not_closed : (e : ConditionalEquation) (x : ℕ) →
    IsFirstOf (λ y. Occurs y e.left → ⊥) (asked_variables e) x → HasNoLooseVariables e → ⊥
not_closed e x f h =
    let o : IsOneOf x (asked_variables e) =
    subst (IsOneOf x) (sym f.parts) (one_right x f.before (x ∷ f.behind) (inl refl)) in
    f.holds (elim (one_parts x (premises_variables e.premises) (variables e.right) o) [
      | inl p ↦ h.premises x (occurring_premises x e.premises p)
      | inr r ↦ h.right x (occurring x e.right r)
    ])
