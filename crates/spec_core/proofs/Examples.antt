-- The definitions can be met: truth values are executable data, with their negation and with half of it, and opposite premises are full.
use Rattle.std.proofs.Common.{ℕ, zero, suc, ◌≡◌, List, [], ◌∷◌, refl, sym, ap, subst, inl, inr, ◌⊎◌, lit<, arith}
use Rattle.std.specs.List.{slice_get}
use Rattle.spec_core.specs.Booleans.{booleans, booleans_with, half_booleans, negation}
use Rattle.spec_core.specs.Lists.{OneOf}
use Rattle.spec_core.specs.Terms.{TermTree, TermTrees, variable, apply, no_terms, and_term, constant, instance}
use Rattle.spec_core.specs.Theories.{Premise, premise, ConditionalEquation, Theory, Heads}
use Rattle.spec_core.specs.Sorts.{OnSome, HasSort, HaveSorts, no_variables, EquationFits}
use Rattle.spec_core.specs.Constructors.{IsMarked, IsConstructor, AreConstructed}
use Rattle.spec_core.specs.Orthogonality.{Gives, HasNoLooseVariables, HeadIsUnmarked}
use Rattle.spec_core.specs.Order.{Decreases}
use Rattle.spec_core.specs.Cover.{IsConstant, IsAfter, empty_one, by_constants, IsGroup, IsCoveredCall, IsPartial}
use Rattle.spec_core.specs.OpenSorts.{IsOpen, by_partial, by_argument, by_premise}
use Rattle.spec_core.specs.Values.{Applies}
use Rattle.spec_core.specs.Executable.{IsExecutable}
use Rattle.spec_core.specs.Laws.{BooleansAreExecutable, BooleansAreClosed, HalfNegationIsPartial, OppositePremisesAreFull}
use Rattle.spec_core.proofs.Lists.{untrue}

head_is_not : (given result f : ℕ) → Heads f (negation given result) → 2 ≡ f
head_is_not given result f (ps, e) = cc

no_loose : (given result : ℕ) → HasNoLooseVariables (negation given result)
no_loose given result = record { right = λ x o. absurd o; premises = λ x o. absurd o }

-- with the equation not(true) = false and others
module _ (others : List ConditionalEquation) where
  abbrev theory : Theory
  theory = booleans_with (negation 0 1 ∷ others)

  negation_fits : (given result : ℕ) →
      HasSort theory no_variables (constant given) 0 → HasSort theory no_variables (constant result) 0 →
      EquationFits theory (negation given result)
  negation_fits given result g r = record {
    one_name_each = refl;
    sorts = tt;
    sides = (0, (refl, (with_no_names given g, tt)), with_no_names result r);
    premises = tt;
  }
    where
      with_no_names : (c : ℕ) → HasSort theory no_variables (constant c) 0 → HasSort theory (slice_get []) (constant c) 0
      with_no_names c h = h

  unmarked : (given result : ℕ) → HeadIsUnmarked theory (negation given result)
  unmarked given result f heads marked = untrue (subst (λ g. IsMarked theory g) (sym (head_is_not given result f heads)) marked)

  not_is_defined : IsConstructor theory 2 → ⊥
  not_is_defined (inl h) = h.0 (and_term (constant 0) no_terms, refl)
  not_is_defined (inr marked) = untrue marked

  decreases : (given result : ℕ) →
      IsConstructor theory result → (f : ℕ) (ps : TermTrees) → (negation given result).left ≡ apply f ps →
      Decreases theory f ps (negation given result)
  decreases given result c f ps e = record { right = inr (tt, inl c); asked = tt }

-- each value of the sort is one of the two constants
two_values : (v : TermTree) →
    HaveSorts booleans no_variables (and_term v no_terms) (0 ∷ []) → AreConstructed booleans (and_term v no_terms) →
    (v ≡ constant 0) ⊎ (v ≡ constant 1)
two_values (variable x) h c = absurd c.0
two_values (apply zero no_terms) h c = inl refl
two_values (apply zero (and_term t ts)) h c = absurd h.0.1
two_values (apply (suc zero) no_terms) h c = inr refl
two_values (apply (suc zero) (and_term t ts)) h c = absurd h.0.1
two_values (apply (suc (suc zero)) ts) h c = absurd (not_is_defined (negation 1 0 ∷ []) c.0.0)
two_values (apply (suc (suc (suc f))) ts) h c = absurd h.0

-- each of the two equations makes a group of its own
covered_call : (given result : ℕ) →
    OneOf (λ e. e.left ≡ (negation given result).left) booleans.equations →
    IsGroup booleans (negation given result).left ([] ∷ []) → IsCoveredCall booleans (negation given result).left
covered_call given result equation group = record {
  left = (negation given result).left;
  equation = equation;
  bound = λ x. constant 0;
  vars = no_variables;
  lists = [] ∷ [];
  matches = refl;
  sorts = λ x a e. cc;
  group = group;
  full = empty_one (inl refl);
}

group_of_true : IsGroup booleans (negation 0 1).left ([] ∷ [])
group_of_true = record {
  from_equations = (inl ((λ x. x), refl, refl), tt);
  all_equations = ((λ r e. inl (r, e, refl)), ((λ r e. let h : ◌≡◌ {A = ℕ} 1 0 = cc in absurd (omega (arith, h))), tt));
}

group_of_false : IsGroup booleans (negation 1 0).left ([] ∷ [])
group_of_false = record {
  from_equations = (inr (inl ((λ x. x), refl, refl)), tt);
  all_equations = ((λ r e. let h : ◌≡◌ {A = ℕ} 0 1 = cc in absurd (omega (arith, h))), ((λ r e. inl (r, e, refl)), tt));
}

covered_value : (v : TermTree) → (v ≡ constant 0) ⊎ (v ≡ constant 1) → IsCoveredCall booleans (apply 2 (and_term v no_terms))
covered_value v (inl e) = subst (λ w. IsCoveredCall booleans (apply 2 (and_term w no_terms))) (sym e) (covered_call 0 1 (inl refl) group_of_true)
covered_value v (inr e) = subst (λ w. IsCoveredCall booleans (apply 2 (and_term w no_terms))) (sym e) (covered_call 1 0 (inr (inl refl)) group_of_false)

-- each call over ground constructor terms is covered
covered : (f : ℕ) (vs : TermTrees) →
    (IsConstructor booleans f → ⊥) → OnSome (slice_get booleans.operations f) (λ d. HaveSorts booleans no_variables vs d.args) →
    AreConstructed booleans vs → IsCoveredCall booleans (apply f vs)
covered zero vs defined sorts constructed = absurd (defined (inr refl))
covered (suc zero) vs defined sorts constructed = absurd (defined (inr refl))
covered (suc (suc zero)) no_terms defined sorts constructed = absurd sorts
covered (suc (suc zero)) (and_term v no_terms) defined sorts constructed = covered_value v (two_values v sorts constructed)
covered (suc (suc zero)) (and_term v (and_term w ws)) defined sorts constructed = absurd sorts.1
covered (suc (suc (suc f))) vs defined sorts constructed = absurd sorts

-- where no operation is partial, no sort is open
none_open : (theory : Theory) → ((f : ℕ) → IsPartial theory f → ⊥) → (sort : ℕ) → IsOpen theory sort → ⊥
none_open theory whole sort (by_partial f given partial) = whole f partial
none_open theory whole sort (by_argument f other given taken is_open) = none_open theory whole other is_open
none_open theory whole sort (by_premise f other given asked is_open) = none_open theory whole other is_open

-- beside not(true) = false
abbrev both : List ConditionalEquation
both = negation 1 0 ∷ []

pub booleans_are_executable : BooleansAreExecutable
booleans_are_executable = record {
  fits = record {
    sorts_are_few = lit< tt;
    operations_are_few = lit< tt;
    equations_are_few = lit< tt;
    operations = ((lit< tt, tt), ((lit< tt, tt), ((lit< tt, (lit< tt, tt)), tt)));
    equations = (negation_fits both 0 1 (refl, tt) (refl, tt), (negation_fits both 1 0 (refl, tt) (refl, tt), tt));
  };
  orthogonal = record {
    unmarked = (unmarked both 0 1, (unmarked both 1 0, tt));
    patterns = (
      (2, and_term (constant 0) no_terms, refl, ((inr refl, tt), tt)),
      ((2, and_term (constant 1) no_terms, refl, ((inr refl, tt), tt)), tt),
    );
    linear = ((tt, (λ x o. absurd o), tt), ((tt, (λ x o. absurd o), tt), tt));
    closed = (no_loose 0 1, (no_loose 1 0, tt));
    apart = ((inl (λ s z e. let h : ◌≡◌ {A = ℕ} 0 1 = cc in absurd (omega (arith, h))), tt), (tt, tt));
  };
  decreasing = (decreases both 0 1 (inr refl), (decreases both 1 0 (inr refl), tt));
}

pub booleans_are_closed : BooleansAreClosed
booleans_are_closed = none_open booleans (λ f p. p.uncovered (covered f p.arguments p.defined p.sorts p.constructed))

half_is_executable : IsExecutable half_booleans
half_is_executable = record {
  fits = record {
    sorts_are_few = lit< tt;
    operations_are_few = lit< tt;
    equations_are_few = lit< tt;
    operations = ((lit< tt, tt), ((lit< tt, tt), ((lit< tt, (lit< tt, tt)), tt)));
    equations = (negation_fits [] 0 1 (refl, tt) (refl, tt), tt);
  };
  orthogonal = record {
    unmarked = (unmarked [] 0 1, tt);
    patterns = ((2, and_term (constant 0) no_terms, refl, ((inr refl, tt), tt)), tt);
    linear = ((tt, (λ x o. absurd o), tt), tt);
    closed = (no_loose 0 1, tt);
    apart = (tt, tt);
  };
  decreasing = (decreases [] 0 1 (inr refl), tt);
}

-- not(true) is no instance of not(false)
not_like_false : (s : ℕ → TermTree) → instance s (negation 0 1).left ≡ apply 2 (and_term (constant 1) no_terms) → ⊥
not_like_false s e = let h : ◌≡◌ {A = ℕ} 0 1 = cc in absurd (omega (arith, h))

-- nor of a constant
not_like_constant : (s : ℕ → TermTree) → instance s (negation 0 1).left ≡ constant 1 → ⊥
not_like_constant s e = let h : ◌≡◌ {A = ℕ} 2 1 = cc in absurd (omega (arith, h))

half_is_partial : IsPartial half_booleans 2
half_is_partial = record {
  defined = not_is_defined [];
  arguments = and_term (constant 1) no_terms;
  sorts = ((refl, tt), tt);
  constructed = ((inr refl, tt), tt);
  uncovered = λ c. by_left c c.equation;
}
  where
    by_left : (c : IsCoveredCall half_booleans (apply 2 (and_term (constant 1) no_terms))) →
        ((negation 0 1).left ≡ c.left) ⊎ ⊥ → ⊥
    by_left c (inl e) =
        not_like_false c.bound (subst (λ l. instance c.bound l ≡ apply 2 (and_term (constant 1) no_terms)) (sym e) c.matches)
    by_left c (inr none) = none

pub half_negation_is_partial : HalfNegationIsPartial
half_negation_is_partial = record {
  executable = half_is_executable;
  partial = half_is_partial;
  open_sort = by_partial 2 refl half_is_partial;
  value = record {
    fits = (0, (refl, ((refl, tt), tt)));
    settled = (
      ((tt, ((λ (a : Applies half_booleans (negation 0 1) (constant 1)). not_like_constant a.substitution a.matches), tt)), tt),
      (
        (λ (a : Applies half_booleans (negation 0 1) (apply 2 (and_term (constant 1) no_terms))). not_like_false a.substitution a.matches),
        tt,
      ),
    );
  };
}

pub opposite_premises_are_full : OppositePremisesAreFull
opposite_premises_are_full theory vars t sort c d sorted constants of_c of_d only =
    by_constants t sort sorted constants ((c, (of_c, inl refl)), ((d, (of_d, inl refl)), tt))
    (λ k constant_k rest after. empty_one (go k constant_k rest after))
  where
    go : (k : ℕ) →
        IsConstant theory sort k → (rest : List (List Premise)) →
        IsAfter theory t k ((premise t (constant c) ∷ []) ∷ (premise t (constant d) ∷ []) ∷ []) rest → OneOf (λ l. l ≡ []) rest
    go k constant_k rest (inl (gives, (more, e, after))) = subst (OneOf (λ l. l ≡ [])) (sym e) (inl refl)
    go k constant_k rest (inr (not_c, inl (gives, (more, e, after)))) = subst (OneOf (λ l. l ≡ [])) (sym e) (inl refl)
    go k constant_k rest (inr (not_c, inr (not_d, e))) = neither (only k constant_k) not_c not_d
      where
        neither : (k ≡ c) ⊎ (k ≡ d) →
            (Gives theory (premise t (constant c)) t k → ⊥) → (Gives theory (premise t (constant d)) t k → ⊥) → OneOf (λ l. l ≡ []) rest
        neither (inl same) a b = absurd (a (constant_k.0, inl (ap (λ n. premise t (constant n)) (sym same))))
        neither (inr same) a b = absurd (b (constant_k.0, inl (ap (λ n. premise t (constant n)) (sym same))))
