-- The variables of a left side, and the terms that are bound to them.
use Rattle.std.proofs.Common.{ℕ, ◌≡◌, ◌<◌, ◌+◌, List, [], ◌∷◌, ◌++◌, length, map, take, get_or, refl, sym, ap, subst, ◌∙◌, inl, inr, Bool}
use Rattle.std.proofs.Common.{true, false, ◌||◌, nat_eq, Option, Some, None, if◌then◌else◌}
use Rattle.std.proofs.lemmas.Bool.{eq-eqb, eqb-true}
use Rattle.std.specs.List.{list_any, slice_get}
use Rattle.spec_core.specs.declared.term.Term.{Term}
use Rattle.spec_core.specs.Lists.{Each, IsOneOf}
use Rattle.spec_core.specs.Equality.{IsGroundFor}
use Rattle.spec_core.specs.Orthogonality.{HasNoLooseVariables}
use Rattle.spec_core.specs.Sorts.{OnSome, HasSort, FitsGround, EquationFits, PremiseFits, no_variables}
use Rattle.spec_core.specs.Terms.{TermTree, TermTrees, variable, apply, no_terms, and_term, instance, instances, Occurs, OccursInAny}
use Rattle.spec_core.specs.Terms.{term_of, terms}
use Rattle.spec_core.specs.Theories.{Premise, premise, ConditionalEquation, Theory, OccursInPremises}
use Rattle.spec_core.proofs.Instances.{instance_sort}
use Rattle.spec_core.proofs.Lists.{map_next}
use Rattle.spec_core.proofs.Members.{one_left, one_right}
use Rattle.value_table.proofs.Spelled.{on_declared}
use Rattle.equal_proof.specs.Certificates.{with_variable, with_variables, with_all_variables, variables_of, bound_by, FitVariables}

kept : (x : ℕ) (found : List ℕ) (y : ℕ) → IsOneOf x found → IsOneOf x (with_variable found y)
kept x found y h = by (list_any (nat_eq y) found)
  where
    by : (b : Bool) → IsOneOf x (if b then found else found ++ y ∷ [])
    by true = h
    by false = one_left x found (y ∷ []) h

found_step : (x y : ℕ) (ys : List ℕ) (b : Bool) → nat_eq x y ≡ b → (b || list_any (nat_eq x) ys) ≡ true →
    (list_any (nat_eq x) ys ≡ true → IsOneOf x ys) → IsOneOf x (y ∷ ys)
found_step x y ys true e k later = inl (eqb-true x y e)
found_step x y ys false e k later = inr (later k)

found_one : (x : ℕ) (found : List ℕ) → list_any (nat_eq x) found ≡ true → IsOneOf x found
found_one x [] h = absurd (cc)
found_one x (y ∷ ys) h = found_step x y ys (nat_eq x y) refl h (found_one x ys)

added : (x : ℕ) (found : List ℕ) → IsOneOf x (with_variable found x)
added x found = by (list_any (nat_eq x) found) refl
  where
    by : (b : Bool) → list_any (nat_eq x) found ≡ b → IsOneOf x (if b then found else found ++ x ∷ [])
    by true e = found_one x found e
    by false e = one_right x found (x ∷ []) (inl refl)

mutual
  keeps : (x : ℕ) (found : List ℕ) (t : TermTree) → IsOneOf x found → IsOneOf x (with_variables found t)
  keeps x found (variable y) h = kept x found y h
  keeps x found (apply f ts) h = keeps_all x found ts h

  keeps_all : (x : ℕ) (found : List ℕ) (ts : TermTrees) → IsOneOf x found → IsOneOf x (with_all_variables found ts)
  keeps_all x found no_terms h = h
  keeps_all x found (and_term t ts) h = keeps_all x (with_variables found t) ts (keeps x found t h)

mutual
  occurs_found : (x : ℕ) (found : List ℕ) (t : TermTree) → Occurs x t → IsOneOf x (with_variables found t)
  occurs_found x found (variable y) e = subst (λ z. IsOneOf x (with_variable found z)) e (added x found)
  occurs_found x found (apply f ts) o = occurs_in_found x found ts o

  occurs_in_found : (x : ℕ) (found : List ℕ) (ts : TermTrees) → OccursInAny x ts → IsOneOf x (with_all_variables found ts)
  occurs_in_found x found no_terms o = absurd o
  occurs_in_found x found (and_term t ts) (inl o) = keeps_all x (with_variables found t) ts (occurs_found x found t o)
  occurs_in_found x found (and_term t ts) (inr o) = occurs_in_found x (with_variables found t) ts o

-- the variables of one more term
all_append : (found : List ℕ) (ts : List TermTree) (t : TermTree) →
    with_all_variables found (terms (ts ++ t ∷ [])) ≡ with_variables (with_all_variables found (terms ts)) t
all_append found [] t = refl
all_append found (u ∷ ts) t = all_append (with_variables found u) ts t

pub all_next : (found : List ℕ) (all : List Term) (i : ℕ) (t : Term) → i < length all → t ≡ get_or all i t →
    with_all_variables found (terms (map term_of (take (i + 1) all))) ≡
    with_variables (with_all_variables found (terms (map term_of (take i all)))) (term_of t)
all_next found all i t within at =
    ap (λ ts. with_all_variables found (terms ts)) (map_next term_of all i t within at)
    ∙ all_append found (map term_of (take i all)) (term_of t)

-- what is bound to a variable
pub bound_here : (x y : ℕ) (ys : List ℕ) (t : TermTree) (ts : List TermTree) → y ≡ x → bound_by (y ∷ ys) (t ∷ ts) x ≡ t
bound_here x y ys t ts e = ap (λ b. if b then t else bound_by ys ts x) (eq-eqb y x e)

pub bound_later : (x y : ℕ) (ys : List ℕ) (t : TermTree) (ts : List TermTree) → (y ≡ x → ⊥) →
    bound_by (y ∷ ys) (t ∷ ts) x ≡ bound_by ys ts x
bound_later x y ys t ts ne = by (nat_eq y x) refl
  where
    by : (b : Bool) → nat_eq y x ≡ b → (if b then t else bound_by ys ts x) ≡ bound_by ys ts x
    by true e = absurd (ne (eqb-true y x e))
    by false e = refl

module _ (theory : Theory) (sorts : List ℕ) where
  bound_step : (y x a : ℕ) (ys : List ℕ) (t rest : TermTree) (b : Bool) → nat_eq y x ≡ b →
      OnSome (slice_get sorts y) (λ (sort : ℕ). HasSort theory no_variables t sort) → slice_get sorts x ≡ Some a → IsOneOf x (y ∷ ys) →
      (IsOneOf x ys → HasSort theory no_variables rest a) → HasSort theory no_variables (if b then t else rest) a
  bound_step y x a ys t rest true k h e o later =
      on_declared (λ (sort : ℕ). HasSort theory no_variables t sort) (slice_get sorts y) a (ap (slice_get sorts) (eqb-true y x k) ∙ e) h
  bound_step y x a ys t rest false k h e (inl q) later =
      absurd (let n : true ≡ false = sym (eq-eqb y x (sym q)) ∙ k in let z : ⊥ = cc in z)
  bound_step y x a ys t rest false k h e (inr o) later = later o

  bound_sorts : (xs : List ℕ) (ts : List TermTree) (x a : ℕ) → FitVariables theory sorts xs ts → IsOneOf x xs → slice_get sorts x ≡ Some a →
      HasSort theory no_variables (bound_by xs ts x) a
  bound_sorts [] ts x a h o e = absurd o
  bound_sorts (y ∷ ys) [] x a h o e = absurd h
  bound_sorts (y ∷ ys) (t ∷ ts) x a h o e =
      bound_step y x a ys t (bound_by ys ts x) (nat_eq y x) refl h.0 e o (λ p. bound_sorts ys ts x a h.1 p e)

  -- terms for variables are of the data
  pub variables_fit : (xs : List ℕ) (ts : List TermTree) → FitVariables theory sorts xs ts → Each (FitsGround theory) ts
  variables_fit [] [] h = tt
  variables_fit [] (t ∷ ts) h = absurd h
  variables_fit (x ∷ xs) [] h = absurd h
  variables_fit (x ∷ xs) (t ∷ ts) h = (of (slice_get sorts x) h.0, variables_fit xs ts h.1)
    where
      of : (o : Option ℕ) → OnSome o (λ (sort : ℕ). HasSort theory no_variables t sort) → FitsGround theory t
      of None p = absurd p
      of (Some sort) p = (sort, p)

-- the instances of a premise's sides are terms of the data
abbrev pub SidesFitBy : Theory → (ℕ → TermTree) → Premise → Type 0
SidesFitBy theory s (premise a b) = FitsGround theory (instance s a) × FitsGround theory (instance s b)

module _ (theory : Theory) (e : ConditionalEquation) (closed : HasNoLooseVariables e) (ts : List TermTree)
    (fit : FitVariables theory e.sorts (variables_of e.left) ts) where
  in_left : (x a : ℕ) → Occurs x e.left → slice_get e.sorts x ≡ Some a →
      HasSort theory no_variables (bound_by (variables_of e.left) ts x) a
  in_left x a o d = bound_sorts theory e.sorts (variables_of e.left) ts x a fit (occurs_found x [] e.left o) d

  -- the substitution gives each variable of the equation a ground term of its sort
  pub bound_is_ground : IsGroundFor theory e (bound_by (variables_of e.left) ts)
  bound_is_ground x a (inl o) d = in_left x a o d
  bound_is_ground x a (inr (inl o)) d = in_left x a (closed.right x o) d
  bound_is_ground x a (inr (inr o)) d = in_left x a (closed.premises x o) d

  pub left_fits : EquationFits theory e → FitsGround theory (instance (bound_by (variables_of e.left) ts) e.left)
  left_fits fits = (
    fits.sides.0,
    instance_sort theory (slice_get e.sorts) (bound_by (variables_of e.left) ts) e.left fits.sides.0 fits.sides.1
        (λ x a o d. bound_is_ground x a (inl o) d),
  )

  pub right_fits : EquationFits theory e → FitsGround theory (instance (bound_by (variables_of e.left) ts) e.right)
  right_fits fits = (
    fits.sides.0,
    instance_sort theory (slice_get e.sorts) (bound_by (variables_of e.left) ts) e.right fits.sides.0 fits.sides.2
        (λ x a o d. bound_is_ground x a (inr (inl o)) d),
  )

  premises_fit_in : (ps : List Premise) → Each (PremiseFits theory (slice_get e.sorts)) ps →
      ((x : ℕ) → OccursInPremises x ps → OccursInPremises x e.premises) →
      Each (SidesFitBy theory (bound_by (variables_of e.left) ts)) ps
  premises_fit_in [] h inside = tt
  premises_fit_in (premise a b ∷ ps) h inside =
      let s = bound_by (variables_of e.left) ts in (
        (
          (
            h.0.0,
            instance_sort theory (slice_get e.sorts) s a h.0.0 h.0.1 (λ x c o d. bound_is_ground x c (inr (inr (inside x (inl o)))) d),
          ),
          (
            h.0.0,
            instance_sort theory (slice_get e.sorts) s b h.0.0 h.0.2 (λ x c o d. bound_is_ground x c (inr (inr (inside x (inr
                (inl o))))) d),
          ),
        ),
        premises_fit_in ps h.1 (λ x o. inside x (inr (inr o))),
      )

  pub premises_fit : EquationFits theory e → Each (SidesFitBy theory (bound_by (variables_of e.left) ts)) e.premises
  premises_fit fits = premises_fit_in e.premises fits.premises (λ x o. o)
