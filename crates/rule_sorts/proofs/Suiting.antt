-- Terms for variables keep the sorts of a behaviour.
use Rattle.std.proofs.Common.{ℕ, ◌≡◌, ◌∙◌, ◌==◌, ◌⊎◌, inl, inr, List, [], ◌∷◌, map, refl, sym, ap, subst, Bool, true, false}
use Rattle.std.proofs.Common.{if◌then◌else◌, Option, Some, None}
use Rattle.std.specs.List.{slice_get}
use Rattle.std.proofs.lemmas.Bool.{eqb-true}
use Rattle.std.proofs.lemmas.Option.{same_Some}
use Rattle.spec_core.specs.Code.{ActionField, Binding, ExitValue, Program, Variable, accept, exit_any, exit_given, give}
use Rattle.spec_core.specs.Functionality.{BindingFits, FieldFits, GuardFits, ValuesFit, accepted, bound_variables, with_variable}
use Rattle.spec_core.specs.Functionality.{with_variables}
use Rattle.spec_core.specs.Lists.{Each}
use Rattle.spec_core.specs.Sorts.{FitsData, HasSort, HaveSorts, PremiseFits, no_variables}
use Rattle.spec_core.specs.Terms.{TermTree, TermTrees, and_term, apply, instance, instances, no_terms, variable}
use Rattle.spec_core.specs.Theories.{Premise, Theory, premise}
use Rattle.spec_core.specs.Values.{HasValue}
use Rattle.spec_core.proofs.Instances.{on_both, on_map}
use Rattle.spec_core.proofs.Lists.{each-map, each_implied}
use Rattle.data_laws.proofs.Sorts.{have_one_sort}
use Rattle.rule_model.specs.declared.rules.Slot.{Slot}
use Rattle.rule_model.specs.declared.rules.Slot.TheVariants.{Of}
use Rattle.rule_model.specs.Behaviours.{Behaviour, stop, exit, inner, action, choice, guarded, bound, value_choice, gate_choice, parallel}
use Rattle.rule_model.specs.Behaviours.{hide, enable, disable, call, relabel}
use Rattle.rule_model.specs.Fields.{ArgumentsHave, BindingsHave, FieldsHave, IsHandedOn}
use Rattle.rule_model.specs.Substitution.{Assignment, put, put_in_binding, put_in_exit, put_in_field, put_in_guard, put_in_premise}
use Rattle.rule_model.specs.Substitution.{with_term, without}
use Rattle.rule_sorts.specs.Fitting.{BehaviourFits, ExitFits}

-- the sorts of the variables in scope
abbrev pub Sorts : Type 0
Sorts = ℕ → Option ℕ

module _ (theory : Theory) where
  one_sort : (t : TermTree) (a b : ℕ) → HasSort theory no_variables t a → HasSort theory no_variables t b → a ≡ b
  one_sort (variable x) a b h k = let n : ⊥ = cc in absurd n
  one_sort (apply f ts) a b h k = on_both (slice_get theory.operations f) h k (λ d p q. sym p.0 ∙ q.0)

  -- a value has each sort of its term
  pub value_sort : FitsData theory → (t n : TermTree) (a : ℕ) → HasSort theory no_variables t a → HasValue theory t n →
      HasSort theory no_variables n a
  value_sort fits t n a k h =
      let r = have_one_sort theory fits h.equal in
      subst (λ (z : ℕ). HasSort theory no_variables n z) (one_sort t r.0 a r.1 k) r.2

  mutual
    -- a ground term has its sort whatever variables there are
    pub in_scope : (vars : Sorts) (t : TermTree) (a : ℕ) → HasSort theory no_variables t a → HasSort theory vars t a
    in_scope vars (variable x) a h = let n : ⊥ = cc in absurd n
    in_scope vars (apply f ts) a h = on_map (slice_get theory.operations f) h (λ d p. (p.0, all_in_scope vars ts d.args p.1))

    all_in_scope : (vars : Sorts) (ts : TermTrees) (sorts : List ℕ) → HaveSorts theory no_variables ts sorts →
        HaveSorts theory vars ts sorts
    all_in_scope vars no_terms [] h = tt
    all_in_scope vars no_terms (c ∷ sorts) h = absurd h
    all_in_scope vars (and_term t ts) [] h = absurd h
    all_in_scope vars (and_term t ts) (c ∷ sorts) h = (in_scope vars t c h.0, all_in_scope vars ts sorts h.1)

  -- The terms suit the variables of these sorts: each is a ground term of its variable's sort, or the variable itself, which then has the
  -- sort among the others.
  abbrev pub Suits : Sorts → Assignment → Sorts → Type 0
  Suits vars s wars =
      (y a : ℕ) → vars y ≡ Some a → HasSort theory no_variables (s y) a ⊎ ((s y ≡ variable y) × (wars y ≡ Some a))

  -- no variable is in scope
  pub none_suit : (s : Assignment) → Suits no_variables s no_variables
  none_suit s y a e = let n : ⊥ = cc in absurd n

  under_one : (vars : Sorts) (s : Assignment) (wars : Sorts) → Suits vars s wars → (x : Variable) →
      Suits (with_variable x vars) (with_term x (variable x.number) s) (with_variable x wars)
  under_one vars s wars h x y a e = by_test (y == x.number) refl e
    where
      by_test : (b : Bool) → (y == x.number) ≡ b → (if b then Some x.sort else vars y) ≡ Some a →
          HasSort theory no_variables (if b then variable x.number else s y) a ⊎
          (((if b then variable x.number else s y) ≡ variable y) × ((if b then Some x.sort else wars y) ≡ Some a))
      by_test true f e = inr (ap variable (sym (eqb-true y x.number f)), e)
      by_test false f e = h y a e

  pub under_binders : (vars : Sorts) (s : Assignment) (wars : Sorts) → Suits vars s wars → (xs : List Variable) →
      Suits (with_variables xs vars) (without xs s) (with_variables xs wars)
  under_binders vars s wars h [] = h
  under_binders vars s wars h (x ∷ xs) =
      under_binders (with_variable x vars) (with_term x (variable x.number) s) (with_variable x wars) (under_one vars s wars h x) xs

  pub with_ground : (vars : Sorts) (s : Assignment) (wars : Sorts) → Suits vars s wars → (x : Variable) (n : TermTree) →
      HasSort theory no_variables n x.sort → Suits (with_variable x vars) (with_term x n s) wars
  with_ground vars s wars h x n k y a e = by_test (y == x.number) e
    where
      by_test : (b : Bool) → (if b then Some x.sort else vars y) ≡ Some a →
          HasSort theory no_variables (if b then n else s y) a ⊎ (((if b then n else s y) ≡ variable y) × (wars y ≡ Some a))
      by_test true e = inl (subst (λ (z : ℕ). HasSort theory no_variables n z) (same_Some _ _ e) k)
      by_test false e = h y a e

  module _ (vars : Sorts) (s : Assignment) (wars : Sorts) (suits : Suits vars s wars) where
    mutual
      pub instance_sort : (t : TermTree) (a : ℕ) → HasSort theory vars t a → HasSort theory wars (instance s t) a
      instance_sort (variable y) a h = by_term (suits y a h)
        where
          by_term : HasSort theory no_variables (s y) a ⊎ ((s y ≡ variable y) × (wars y ≡ Some a)) → HasSort theory wars (s y) a
          by_term (inl k) = in_scope wars (s y) a k
          by_term (inr k) = subst (λ (z : TermTree). HasSort theory wars z a) (sym k.0) k.1
      instance_sort (apply f ts) a h = on_map (slice_get theory.operations f) h (λ d p. (p.0, instance_sorts ts d.args p.1))

      instance_sorts : (ts : TermTrees) (sorts : List ℕ) → HaveSorts theory vars ts sorts → HaveSorts theory wars (instances s ts) sorts
      instance_sorts no_terms [] h = tt
      instance_sorts no_terms (c ∷ sorts) h = absurd h
      instance_sorts (and_term t ts) [] h = absurd h
      instance_sorts (and_term t ts) (c ∷ sorts) h = (instance_sort t c h.0, instance_sorts ts sorts h.1)

    premise_fits : (p : Premise) → PremiseFits theory vars p → PremiseFits theory wars (put_in_premise s p)
    premise_fits (premise a b) h = (h.0, instance_sort a h.0 h.1, instance_sort b h.0 h.2)

    guard_fits : (p : Option Premise) → GuardFits theory vars p → GuardFits theory wars (put_in_guard s p)
    guard_fits None h = tt
    guard_fits (Some p) h = premise_fits p h

    field_fits : (f : ActionField) → FieldFits theory vars f → FieldFits theory wars (put_in_field s f)
    field_fits (give t) h = (h.0, instance_sort t h.0 h.1)
    field_fits (accept x) h = h

    binding_fits : (b : Binding) → BindingFits theory vars b → BindingFits theory wars (put_in_binding s b)
    binding_fits b h = (instance_sort b.term b.variable.sort h.0, h.1)

    values_fit : (ts : List TermTree) (xs : List Variable) → ValuesFit theory vars ts xs → ValuesFit theory wars (map (instance s) ts) xs
    values_fit [] [] h = tt
    values_fit [] (x ∷ xs) h = absurd h
    values_fit (t ∷ ts) [] h = absurd h
    values_fit (t ∷ ts) (x ∷ xs) h = (instance_sort t x.sort h.0, values_fit ts xs h.1)

  -- what is chosen, bound, handed on or passed suits its variables

  pub fields_suit : (vars : Sorts) (s t u : Assignment) (fields : List ActionField) (slots : List Slot) (values : List (List ℕ)) →
      Suits vars t no_variables → FieldsHave theory s t fields slots values u → Suits (with_variables (accepted fields) vars) u no_variables
  fields_suit vars s t u [] [] [] k h = subst (λ (z : Assignment). Suits vars z no_variables) (sym h) k
  fields_suit vars s t u (give e ∷ fields) slots (v ∷ values) k h = fields_suit vars s t u fields slots values k h.1
  fields_suit vars s t u (accept x ∷ fields) (Of w ∷ slots) (v ∷ values) k h =
      fields_suit (with_variable x vars) s (with_term x h.1 t) u fields slots values
      (with_ground vars t no_variables k x h.1 h.2.of_sort) h.3
  fields_suit vars s t u _ _ _ k h = absurd h

  pub handed_suit : (vars : Sorts) (t u : Assignment) (xs : List Variable) (values : List (List ℕ)) → Suits vars t no_variables →
      IsHandedOn theory t xs values u → Suits (with_variables xs vars) u no_variables
  handed_suit vars t u [] [] k h = subst (λ (z : Assignment). Suits vars z no_variables) (sym h) k
  handed_suit vars t u (x ∷ xs) (v ∷ values) k h =
      handed_suit (with_variable x vars) (with_term x h.0 t) u xs values (with_ground vars t no_variables k x h.0 h.1.of_sort) h.2
  handed_suit vars t u [] (v ∷ values) k h = absurd h
  handed_suit vars t u (x ∷ xs) [] k h = absurd h

  module _ (fits : FitsData theory) (vars : Sorts) (s : Assignment) (suits : Suits vars s no_variables) where
    valued : (t n : TermTree) (a : ℕ) → HasSort theory vars t a → HasValue theory (instance s t) n → HasSort theory no_variables n a
    valued t n a h k = value_sort fits (instance s t) n a (instance_sort vars s no_variables suits t a h) k

    pub bindings_suit : (wars : Sorts) (t u : Assignment) (bindings : List Binding) → Each (BindingFits theory vars) bindings →
        Suits wars t no_variables → BindingsHave theory s t bindings u →
        Suits (with_variables (bound_variables bindings) wars) u no_variables
    bindings_suit wars t u [] i k h = subst (λ (z : Assignment). Suits wars z no_variables) (sym h) k
    bindings_suit wars t u (b ∷ bindings) i k h =
        bindings_suit (with_variable b.variable wars) (with_term b.variable h.0 t) u bindings i.1
        (with_ground wars t no_variables k b.variable h.0 (valued b.term h.0 b.variable.sort i.0.0 h.1)) h.2

    pub arguments_suit : (wars : Sorts) (t u : Assignment) (xs : List Variable) (terms : List TermTree) → ValuesFit theory vars terms xs →
        Suits wars t no_variables → ArgumentsHave theory s t xs terms u → Suits (with_variables xs wars) u no_variables
    arguments_suit wars t u [] [] i k h = subst (λ (z : Assignment). Suits wars z no_variables) (sym h) k
    arguments_suit wars t u (x ∷ xs) (e ∷ terms) i k h =
        arguments_suit (with_variable x wars) (with_term x h.0 t) u xs terms i.1
        (with_ground wars t no_variables k x h.0 (valued e h.0 x.sort i.0 h.1)) h.2
    arguments_suit wars t u [] (e ∷ terms) i k h = absurd h
    arguments_suit wars t u (x ∷ xs) [] i k h = absurd h

-- the variables that a construct binds stay the same
same_accepted : (s : Assignment) (fields : List ActionField) → accepted (map (put_in_field s) fields) ≡ accepted fields
same_accepted s [] = refl
same_accepted s (give t ∷ fields) = same_accepted s fields
same_accepted s (accept x ∷ fields) = ap (λ xs. x ∷ xs) (same_accepted s fields)

same_bound : (s : Assignment) (bindings : List Binding) → bound_variables (map (put_in_binding s) bindings) ≡ bound_variables bindings
same_bound s [] = refl
same_bound s (b ∷ bindings) = ap (λ xs. b.variable ∷ xs) (same_bound s bindings)

module _ (program : Program) where
  exit_fits : (vars : Sorts) (s : Assignment) (wars : Sorts) → Suits program.theory vars s wars → (f : ExitValue) →
      ExitFits program vars f → ExitFits program wars (put_in_exit s f)
  exit_fits vars s wars k (exit_given t) h = (h.0, instance_sort program.theory vars s wars k t h.0 h.1)
  exit_fits vars s wars k (exit_any sort) h = tt

  pub with_terms : (vars : Sorts) (s : Assignment) (wars : Sorts) → Suits program.theory vars s wars → (b : Behaviour) →
      BehaviourFits program vars b → BehaviourFits program wars (put s b)
  with_terms vars s wars k stop h = tt
  with_terms vars s wars k (exit fields) h =
      each-map (ExitFits program wars) (put_in_exit s) fields
      (each_implied (ExitFits program vars) (λ f. ExitFits program wars (put_in_exit s f)) fields (exit_fits vars s wars k) h)
  with_terms vars s wars k (inner b) h = with_terms vars s wars k b h
  with_terms vars s wars k (action g fields guard b) h =
      let own = accepted fields in
      let below = under_binders program.theory vars s wars k own in (
        each-map (FieldFits program.theory wars) (put_in_field s) fields
            (each_implied (FieldFits program.theory vars) (λ f. FieldFits program.theory wars (put_in_field s f)) fields
            (field_fits program.theory vars s wars k) h.0),
        subst (λ (xs : List Variable). GuardFits program.theory (with_variables xs wars) (put_in_guard (without own s) guard))
            (sym (same_accepted s fields))
            (guard_fits program.theory (with_variables own vars) (without own s) (with_variables own wars) below guard h.1),
        subst (λ (xs : List Variable). BehaviourFits program (with_variables xs wars) (put (without own s) b))
            (sym (same_accepted s fields))
            (with_terms (with_variables own vars) (without own s) (with_variables own wars) below b h.2),
      )
  with_terms vars s wars k (choice b c) h = (with_terms vars s wars k b h.0, with_terms vars s wars k c h.1)
  with_terms vars s wars k (guarded p b) h = (premise_fits program.theory vars s wars k p h.0, with_terms vars s wars k b h.1)
  with_terms vars s wars k (bound bindings b) h =
      let own = bound_variables bindings in (
        each-map (BindingFits program.theory wars) (put_in_binding s) bindings
            (each_implied (BindingFits program.theory vars) (λ z. BindingFits program.theory wars (put_in_binding s z)) bindings
            (binding_fits program.theory vars s wars k) h.0),
        subst (λ (xs : List Variable). BehaviourFits program (with_variables xs wars) (put (without own s) b)) (sym (same_bound s bindings))
            (with_terms (with_variables own vars) (without own s) (with_variables own wars) (under_binders program.theory vars s wars k own)
            b h.1),
      )
  with_terms vars s wars k (value_choice x b) h =
      with_terms (with_variable x vars) (without (x ∷ []) s) (with_variable x wars) (under_one program.theory vars s wars k x) b h
  with_terms vars s wars k (gate_choice g gates b) h = (h.0, with_terms vars s wars k b h.1)
  with_terms vars s wars k (parallel gates b c) h = (with_terms vars s wars k b h.0, with_terms vars s wars k c h.1)
  with_terms vars s wars k (hide gates b) h = with_terms vars s wars k b h
  with_terms vars s wars k (enable b xs c) h = (
    with_terms vars s wars k b h.0,
    with_terms (with_variables xs vars) (without xs s) (with_variables xs wars) (under_binders program.theory vars s wars k xs) c h.1,
  )
  with_terms vars s wars k (disable b c) h = (with_terms vars s wars k b h.0, with_terms vars s wars k c h.1)
  with_terms vars s wars k (call p gates terms) h =
      λ formal xs part e. values_fit program.theory vars s wars k terms xs (h formal xs part e)
  with_terms vars s wars k (relabel pairs b) h = with_terms vars s wars k b h
