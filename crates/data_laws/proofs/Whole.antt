-- The laws of executable data.
use Rattle.std.proofs.Common.{ℕ, ◌≡◌, List, [], ◌∷◌, refl, sym, subst, ◌∙◌, inl, inr, Option, Some}
use Rattle.std.specs.List.{slice_get}
use Rattle.spec_core.specs.Lists.{Each, IsOneOf}
use Rattle.spec_core.specs.Terms.{TermTree, instance, Occurs, preorder}
use Rattle.spec_core.specs.Theories.{Premise, premise, ConditionalEquation, Theory}
use Rattle.spec_core.specs.Sorts.{HasSort, no_variables, FitsGround, EquationFits}
use Rattle.spec_core.specs.Evaluation.{Evaluates}
use Rattle.spec_core.specs.Equality.{Equal, IsGroundFor, by_reflexivity, by_symmetry, by_transitivity}
use Rattle.spec_core.specs.Executable.{IsExecutable}
use Rattle.spec_core.proofs.OneValue.{one_value}
use Rattle.spec_core.specs.Values.{HasValue}
use Rattle.data_laws.specs.Laws.{EachGroundTermEvaluates, EachGroundTermHasOneValue, EvaluationReachesValues, EqualityIsOfValues}
use Rattle.data_laws.specs.Laws.{HaveOneValue, PremiseHasOneValue, TermsHaveOneValueAndCost, SubstitutionsGoByValues}
use Rattle.data_laws.specs.Laws.{ValuesHaveThemselves, EquationSidesHaveOneValue}
use Rattle.data_laws.specs.Laws.{ConstructorTermsAreValues, ValuesOfClosedSorts, CompleteWindowsHoldAllValues}
use Rattle.data_laws.proofs.Sorted.{keeps_sort}
use Rattle.spec_core.proofs.Instances.{instance_sort}
use Rattle.spec_core.proofs.Members.{each_one}
use Rattle.data_laws.proofs.Fit.{fits_sorted}
use Rattle.data_laws.proofs.Conditions.{sorted_of}
use Rattle.data_laws.proofs.Classes.{SameValue, PremiseIsSame, through, by_values}
use Rattle.data_laws.proofs.Settled.{own_value, evaluation_gives_values, constructor_term_is_value, value_of_closed_sort}
use Rattle.data_laws.proofs.Values.{value_of, call_of, class_of}

module _ (theory : Theory) (ex : IsExecutable theory) where
  evaluates : (t : TermTree) → FitsGround theory t → (v : TermTree) × (n : ℕ) × Evaluates theory t v n
  evaluates t f = let s = value_of theory ex t (fits_sorted theory t f.0 f.1) in (s.0, s.1, s.2)

  -- what is equal to a term evaluates to the term's value
  reaches : (a v : TermTree) → HasValue theory a v → (n : ℕ) × Evaluates theory a v n
  reaches a v h =
      let s = class_of theory ex a v h.equal in
      let same = (one_value theory ex.orthogonal.closed s.right (own_value theory ex v h.is_value).1).0 in
      (s.cost, subst (λ u. Evaluates theory a u s.cost) same s.left)

  one_normal_form : (a b v w : TermTree) → Equal theory a b → HasValue theory a v → HasValue theory b w → v ≡ w
  one_normal_form a b v w e h k =
      let s = class_of theory ex a b e in
      let x = reaches a v h in
      let y = reaches b w k in
      (one_value theory ex.orthogonal.closed x.1 s.left).0 ∙ (one_value theory ex.orthogonal.closed s.right y.1).0

  -- one value by evaluation is one value by equality
  to_value : (a b : TermTree) → FitsGround theory a → FitsGround theory b → SameValue theory a b → HaveOneValue theory a b
  to_value a b f g s = (
    s.value,
    evaluation_gives_values theory ex a s.value s.cost f s.left,
    evaluation_gives_values theory ex b s.value s.other_cost g s.right,
  )

  of_value : (a b : TermTree) → HaveOneValue theory a b → SameValue theory a b
  of_value a b h = class_of theory ex a b (by_transitivity h.0 h.1.equal (by_symmetry h.2.equal))

  premises_of_value : (s : ℕ → TermTree) (ps : List Premise) → Each (PremiseHasOneValue theory s) ps → Each (PremiseIsSame theory s) ps
  premises_of_value s [] h = tt
  premises_of_value s (premise a b ∷ ps) h = (of_value (instance s a) (instance s b) h.0, premises_of_value s ps h.1)

  module _ (vars : ℕ → Option ℕ) (s z : ℕ → TermTree) (t : TermTree) (sort : ℕ) (h : HasSort theory vars t sort)
      (sorts : (x a : ℕ) → Occurs x t → vars x ≡ Some a → HasSort theory no_variables (s x) a)
      (have : (x : ℕ) → Occurs x t → HasValue theory (s x) (z x)) where
    value_sort : (x a : ℕ) → Occurs x t → vars x ≡ Some a → HasSort theory no_variables (z x) a
    value_sort x a o e =
        keeps_sort theory ex.orthogonal.closed (sorted_of theory ex) (reaches (s x) (z x) (have x o)).1 a (sorts x a o e)

    by_the_values : HaveOneValue theory (instance s t) (instance z t)
    by_the_values =
        to_value (instance s t) (instance z t)
        (sort, instance_sort theory vars s t sort h sorts)
        (sort, instance_sort theory vars z t sort h value_sort)
        (through theory ex (value_of theory ex) (call_of theory ex) vars s z t sort h (λ x o. class_of theory ex (s x) (z x) (have x o).equal) sorts)

  module _ (e : ConditionalEquation) (s : ℕ → TermTree) (i : IsOneOf e theory.equations) (ground : IsGroundFor theory e s)
      (held : Each (PremiseHasOneValue theory s) e.premises) where
    by_the_equation : HaveOneValue theory (instance s e.left) (instance s e.right)
    by_the_equation =
        let fit = each_one (EquationFits theory) theory.equations e ex.fits.equations i in
        to_value (instance s e.left) (instance s e.right)
        (fit.sides.0, instance_sort theory (slice_get e.sorts) s e.left fit.sides.0 fit.sides.1 (λ x a o q. ground x a (inl o) q))
        (fit.sides.0, instance_sort theory (slice_get e.sorts) s e.right fit.sides.0 fit.sides.2 (λ x a o q. ground x a (inr (inl o)) q))
        (by_values theory ex (value_of theory ex) (call_of theory ex) e i s ground (premises_of_value s e.premises held))

pub each_ground_term_evaluates : EachGroundTermEvaluates
each_ground_term_evaluates theory ex t f =
    let e = evaluates theory ex t f in
    (e.0, e.1, e.2, λ w m a. one_value theory ex.orthogonal.closed e.2 a)

pub each_ground_term_has_one_value : EachGroundTermHasOneValue
each_ground_term_has_one_value theory ex t f =
    let e = evaluates theory ex t f in
    let h = evaluation_gives_values theory ex t e.0 e.1 f e.2 in
    (e.0, h, λ w k. one_normal_form theory ex t t e.0 w (by_reflexivity f) h k)

pub evaluation_reaches_values : EvaluationReachesValues
evaluation_reaches_values theory ex t v f = (λ h. reaches theory ex t v h, λ e. evaluation_gives_values theory ex t v e.0 f e.1)

pub equality_is_of_values : EqualityIsOfValues
equality_is_of_values theory ex a b v w h k = (
  λ e. one_normal_form theory ex a b v w e h k,
  λ e. by_transitivity v h.equal (by_symmetry (subst (Equal theory b) (sym e) k.equal)),
)

pub terms_have_one_value_and_cost : TermsHaveOneValueAndCost
terms_have_one_value_and_cost theory ex t v w n m a b = one_value theory ex.orthogonal.closed a b

pub substitutions_go_by_values : SubstitutionsGoByValues
substitutions_go_by_values theory ex vars s z t sort h sorts have = by_the_values theory ex vars s z t sort h sorts have

pub values_have_themselves : ValuesHaveThemselves
values_have_themselves theory ex v h = own_value theory ex v h

pub equation_sides_have_one_value : EquationSidesHaveOneValue
equation_sides_have_one_value theory ex e s i ground held = by_the_equation theory ex e s i ground held

pub constructor_terms_are_values : ConstructorTermsAreValues
constructor_terms_are_values theory ex t fits c = constructor_term_is_value theory ex t fits c

pub values_of_closed_sorts : ValuesOfClosedSorts
values_of_closed_sorts theory ex v sort h fits closed = value_of_closed_sort theory ex v sort h fits closed

pub complete_windows_hold_all_values : CompleteWindowsHoldAllValues
complete_windows_hold_all_values theory ex sort k values complete window told v h fits =
    let a = window.all.0 told in a.0 (preorder v) (v, refl, fits, value_of_closed_sort theory ex v sort h fits a.1)
