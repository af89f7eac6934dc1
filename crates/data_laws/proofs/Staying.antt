-- An operation to which no equation applies is a constructor, unless its sort is open.
use Rattle.std.proofs.Common.{ℕ, ◌≡◌, ◌⊎◌, List, [], ◌∷◌, refl, sym, ap, subst, ◌∙◌, inl, inr, Option, Some, None, map, IsTrue, true, false}
use Rattle.std.proofs.Common.{Bool}
use Rattle.std.specs.List.{slice_get}
use Rattle.spec_core.specs.Lists.{Each, OneOf, IsOneOf}
use Rattle.spec_core.specs.Terms.{TermTree, TermTrees, variable, apply, no_terms, and_term, constant, instance}
use Rattle.spec_core.specs.Theories.{Operation, Premise, premise, ConditionalEquation, Theory, Heads, OccursInPremises}
use Rattle.spec_core.specs.Sorts.{OnSome, HasSort, HaveSorts, no_variables, EquationFits, PremiseFits}
use Rattle.spec_core.specs.Constructors.{IsConstructor, IsConstructed, AreConstructed}
use Rattle.spec_core.specs.Equality.{IsGroundFor}
use Rattle.spec_core.specs.Orthogonality.{HasPatterns, HasNoLooseVariables, renamed}
use Rattle.spec_core.specs.Evaluation.{Evaluates}
use Rattle.spec_core.specs.Cover.{IsConstant, HasConstants, IsOfGroup, IsCoveredCall}
use Rattle.spec_core.specs.OpenSorts.{GivesSort, IsOfSort, IsOpen, by_partial, by_argument, by_premise}
use Rattle.spec_core.specs.Executable.{IsExecutable}
use Rattle.spec_core.proofs.OneValue.{one_value, agree, same_instance}
use Rattle.spec_core.proofs.Instances.{on_map, instance_sort}
use Rattle.spec_core.proofs.Members.{each_one}
use Rattle.spec_core.proofs.Lists.{untrue}
use Rattle.spec_core.proofs.Sound.{match_is_ground}
use Rattle.data_laws.proofs.Still.{IsStill, AreStill, AllFail}
use Rattle.data_laws.proofs.Sorted.{keeps_sort}
use Rattle.data_laws.proofs.Fit.{IsFit}
use Rattle.data_laws.proofs.Matching.{either, Tells, number}
use Rattle.data_laws.proofs.Exists.{Headed, Settles, PremiseSettles, IsPassed, Ends}
use Rattle.data_laws.proofs.Conditions.{headed_of, sorted_of}
use Rattle.data_laws.proofs.Given.{Makes, PremiseMakes, PremiseMeets}
use Rattle.data_laws.proofs.Full.{one_applies}
use Rattle.data_laws.proofs.Renaming.{after}

-- what is said of a declaration, beside the declaration
pub declared_as : {A : Type 0} (P : A → Type 0) (o : Option A) → OnSome o P → (d : A) × (o ≡ Some d) × P d
declared_as P None h = absurd h
declared_as P (Some d) h = (d, refl, h)

some_one : {A : Type 0} (P : A → Type 0) (x : A) (xs : List A) → IsOneOf x xs → P x → OneOf P xs
some_one P x [] i h = i
some_one P x (y ∷ xs) (inl e) h = inl (subst P e h)
some_one P x (y ∷ xs) (inr i) h = inr (some_one P x xs i h)

module _ (theory : Theory) where
  -- no argument of the operation is of an open sort, where its own sort isn't open
  closed_arguments : (f sort : ℕ) (d : Operation) → slice_get theory.operations f ≡ Some d → GivesSort theory f sort →
      (IsOpen theory sort → ⊥) → (c : ℕ) → IsOneOf c d.args → IsOpen theory c → ⊥
  closed_arguments f sort d e given closed c i is_open =
      closed (by_argument f c given (subst (λ o. OnSome o (λ d. IsOneOf c d.args)) (sym e) i) is_open)

  mutual
    -- a value of a sort that isn't open is a ground constructor term
    pub constructed : (v : TermTree) (sort : ℕ) → IsStill theory v → HasSort theory no_variables v sort → (IsOpen theory sort → ⊥) →
        IsConstructed theory v
    constructed (variable x) sort h k closed = absurd h
    constructed (apply f vs) sort h k closed =
        let given : GivesSort theory f sort = on_map (slice_get theory.operations f) k (λ d p. p.0) in
        let d = declared_as (λ d. (d.result ≡ sort) × HaveSorts theory no_variables vs d.args) (slice_get theory.operations f) k in
        (h.1 sort given closed, all_constructed vs d.0.args h.0 d.2.1 (closed_arguments f sort d.0 d.1 given closed))

    pub all_constructed : (vs : TermTrees) (sorts : List ℕ) → AreStill theory vs → HaveSorts theory no_variables vs sorts →
        ((c : ℕ) → IsOneOf c sorts → IsOpen theory c → ⊥) → AreConstructed theory vs
    all_constructed no_terms sorts h k closed = tt
    all_constructed (and_term v vs) [] h k closed = absurd k
    all_constructed (and_term v vs) (c ∷ sorts) h k closed =
        (constructed v c h.0 k.0 (closed c (inl refl)), all_constructed vs sorts h.1 k.1 (λ a i. closed a (inr i)))

heads : (f : ℕ) (t : TermTree) → Tells ((ps : TermTrees) × (t ≡ apply f ps))
heads f (variable x) = inr (λ h. let e = h.1 in cc)
heads f (apply g ps) = elim (number g f) [ inl e ↦ inl (ps, ap (λ k. apply k ps) e) | inr d ↦ inr (λ h. d (let e = h.1 in cc)) ]

heads_none_tells : (es : List ConditionalEquation) (f : ℕ) → Tells (Each (λ e. Heads f e → ⊥) es)
heads_none_tells [] f = inl tt
heads_none_tells (e ∷ es) f = both (heads f e.left) (heads_none_tells es f)
  where
    both : Tells (Heads f e) → Tells (Each (λ e. Heads f e → ⊥) es) → Tells (Each (λ e. Heads f e → ⊥) (e ∷ es))
    both (inl h) _ = inr (λ c. c.0 h)
    both (inr h) (inl c) = inl (h, c)
    both (inr h) (inr d) = inr (λ c. d c.1)

is_true : (b : Bool) → Tells (IsTrue b)
is_true true = inl refl
is_true false = inr untrue

marked_tells : (o : Option Operation) → Tells (OnSome o (λ d. IsTrue d.marked))
marked_tells None = inr (λ h. h)
marked_tells (Some d) = is_true d.marked

pub constructor_tells : (theory : Theory) (f : ℕ) → Tells (IsConstructor theory f)
constructor_tells theory f = either (heads_none_tells theory.equations f) (marked_tells (slice_get theory.operations f))

module _ (theory : Theory) (ex : IsExecutable theory) where
  -- a ground constructor term of a sort whose constructors are constants is a constant
  constant_of : (v : TermTree) (sort : ℕ) → IsConstructed theory v → HasSort theory no_variables v sort → HasConstants theory sort →
      (c : ℕ) × IsConstant theory sort c × (v ≡ constant c)
  constant_of (variable x) sort h k q = absurd h
  constant_of (apply f vs) sort h k q =
      let r = found (slice_get theory.operations f) (λ d e. q f d e h.0) k in
      (f, (h.0, r.0), ap (apply f) r.1)
    where
      empty : (vs : TermTrees) (sorts : List ℕ) → sorts ≡ [] → HaveSorts theory no_variables vs sorts → vs ≡ no_terms
      empty no_terms sorts e h = refl
      empty (and_term v vs) [] e h = absurd h
      empty (and_term v vs) (s ∷ sorts) e h = cc

      found : (o : Option Operation) → ((d : Operation) → o ≡ Some d → d.result ≡ sort → d.args ≡ []) →
          OnSome o (λ d. (d.result ≡ sort) × HaveSorts theory no_variables vs d.args) →
          OnSome o (λ d. (d.result ≡ sort) × (d.args ≡ [])) × (vs ≡ no_terms)
      found None p q = absurd q
      found (Some d) p q = let e = p d refl q.0 in ((q.0, e), empty vs d.args e q.1)

  -- a term of a sort that isn't open evaluates to a ground constructor term
  makes : (t : TermTree) (sort : ℕ) → Settles theory t → HasSort theory no_variables t sort → (IsOpen theory sort → ⊥) → Makes theory t
  makes t sort v h closed = (
    v.0,
    v.1,
    v.2,
    constructed theory v.0 sort v.3 (keeps_sort theory ex.orthogonal.closed (sorted_of theory ex) v.2 sort h) closed,
  )

  -- so do the sides of premises whose sorts aren't open
  premises_make : (e : ConditionalEquation) (s : ℕ → TermTree) → HasNoLooseVariables e → IsGroundFor theory e s →
      (ps : List Premise) → Each (PremiseFits theory (slice_get e.sorts)) ps →
      ((x : ℕ) → OccursInPremises x ps → OccursInPremises x e.premises) →
      ((sort : ℕ) → OneOf (IsOfSort theory (slice_get e.sorts) sort) ps → IsOpen theory sort → ⊥) →
      Each (PremiseSettles theory s) ps → Each (PremiseMakes theory s) ps
  premises_make e s t ground [] fits inside closed h = tt
  premises_make e s t ground (premise a b ∷ ps) fits inside closed h =
      let sort = fits.0.0 in
      let left = instance_sort theory (slice_get e.sorts) s a sort fits.0.1
      (λ x c o d. ground x c (inr (inr (inside x (inl o)))) d) in
      let right = instance_sort theory (slice_get e.sorts) s b sort fits.0.2
      (λ x c o d. ground x c (inr (inr (inside x (inr (inl o))))) d) in
      let shut = closed sort (inl (fits.0.1, fits.0.2)) in (
        (makes (instance s a) sort h.0.0 left shut, makes (instance s b) sort h.0.1 right shut),
        premises_make e s t ground ps fits.1 (λ x o. inside x (inr (inr o))) (λ c o. closed c (inr o)) h.1,
      )

  -- an equation that was asked and doesn't apply: its premises' sides evaluate to ground constructor terms
  abbrev IsAsked : ℕ → TermTrees → ConditionalEquation → Type 0
  IsAsked f vs e = ((s : ℕ → TermTree) → instance s e.left ≡ apply f vs → ⊥) ⊎
      ((s : ℕ → TermTree) × (instance s e.left ≡ apply f vs) × Each (PremiseMakes theory s) e.premises × AllFail theory s e.premises)

  module _ (f : ℕ) (vs : TermTrees) (sort : ℕ) (fit : IsFit theory f vs) (given : GivesSort theory f sort)
      (closed : IsOpen theory sort → ⊥) where
    asked_one : (e : ConditionalEquation) → IsOneOf e theory.equations → IsPassed theory f vs e → IsAsked f vs e
    asked_one e i (inl none) = inl none
    asked_one e i (inr p) =
        let fits = each_one (EquationFits theory) theory.equations e ex.fits.equations i in
        let patterns = each_one (HasPatterns theory) theory.equations e ex.orthogonal.patterns i in
        let t = each_one HasNoLooseVariables theory.equations e ex.orthogonal.closed i in
        let heads : Heads f e = each_one Headed theory.equations e (headed_of theory ex) i p.0 f vs p.1 in
        let h : HasSort theory no_variables (apply f vs) sort =
        on_map (slice_get theory.operations f) (both_known (slice_get theory.operations f) given fit) (λ d k. k) in
        let ground = match_is_ground theory e fits patterns t p.0 f vs p.1 sort h in
        inr (
          p.0,
          p.1,
          premises_make e p.0 t ground e.premises fits.premises (λ x o. o)
              (λ c o is_open. closed (by_premise f c given
              (some_one (λ d. Heads f d × OneOf (IsOfSort theory (slice_get d.sorts) c) d.premises) e theory.equations i (heads, o)) is_open))
              p.2,
          p.3,
        )
      where
        both_known : (o : Option Operation) → OnSome o (λ d. d.result ≡ sort) → OnSome o (λ d. HaveSorts theory no_variables vs d.args) →
            OnSome o (λ d. (d.result ≡ sort) × HaveSorts theory no_variables vs d.args)
        both_known None a b = a
        both_known (Some d) a b = (a, b)

    all_asked : (es : List ConditionalEquation) → ((e : ConditionalEquation) → IsOneOf e es → IsOneOf e theory.equations) →
        Each (IsPassed theory f vs) es → Each (IsAsked f vs) es
    all_asked [] among h = tt
    all_asked (e ∷ es) among h = (asked_one e (among e (inl refl)) h.0, all_asked es (λ d i. among d (inr i)) h.1)

  -- what is known of premises under one substitution is known under another that agrees
  moved : (s z : ℕ → TermTree) (ps : List Premise) → ((x : ℕ) → OccursInPremises x ps → s x ≡ z x) → Each (PremiseMakes theory s) ps →
      Each (PremiseMakes theory z) ps
  moved s z [] e h = tt
  moved s z (premise a b ∷ ps) e h = (
    (
      subst (Makes theory) (same_instance s z a (λ x o. e x (inl o))) h.0.0,
      subst (Makes theory) (same_instance s z b (λ x o. e x (inr (inl o)))) h.0.1,
    ),
    moved s z ps (λ x o. e x (inr (inr o))) h.1,
  )

  under_names : (r : ℕ → ℕ) (z : ℕ → TermTree) (ps : List Premise) → Each (PremiseMakes theory (λ x. z (r x))) ps →
      Each (PremiseMakes theory z) (map (renamed r) ps)
  under_names r z [] h = tt
  under_names r z (premise a b ∷ ps) h =
      ((subst (Makes theory) (sym (after r z a)) h.0.0, subst (Makes theory) (sym (after r z b)) h.0.1), under_names r z ps h.1)

  -- premises that meet aren't all refuted
  not_failing : (s z : ℕ → TermTree) (r : ℕ → ℕ) (ps : List Premise) → ((x : ℕ) → OccursInPremises x ps → s x ≡ z (r x)) →
      AllFail theory s ps → Each (PremiseMeets theory z) (map (renamed r) ps) → ⊥
  not_failing s z r [] e f h = f
  not_failing s z r (premise a b ∷ ps) e (inr f) h = not_failing s z r ps (λ x o. e x (inr (inr o))) f h.1
  not_failing s z r (premise a b ∷ ps) e (inl f) h =
      let x : instance z (instance (λ y. variable (r y)) a) ≡ instance s a =
      after r z a ∙ sym (same_instance s (λ y. z (r y)) a (λ y o. e y (inl o))) in
      let y : instance z (instance (λ y. variable (r y)) b) ≡ instance s b =
      after r z b ∙ sym (same_instance s (λ y. z (r y)) b (λ y o. e y (inr (inl o)))) in
      let l = subst (λ u. Evaluates theory u h.0.value h.0.cost) x h.0.left in
      let k = subst (λ u. Evaluates theory u h.0.value h.0.other_cost) y h.0.right in
      f.6 ((one_value theory ex.orthogonal.closed f.4 l).0 ∙ sym (one_value theory ex.orthogonal.closed f.5 k).0)

  module _ (f : ℕ) (vs : TermTrees) (c : IsCoveredCall theory (apply f vs)) where
    -- an equation of the group that was asked: what its list of premises is known to do
    known_one : (e : ConditionalEquation) (ps : List Premise) → HasNoLooseVariables e → IsAsked f vs e → IsOfGroup c.left ps e →
        Each (PremiseMakes theory c.bound) ps
    known_one e ps t (inl no_match) g =
        absurd (no_match (λ x. c.bound (g.0 x)) (sym (after g.0 c.bound e.left) ∙ ap (instance c.bound) g.1 ∙ c.matches))
    known_one e ps t (inr p) g =
        let q : instance p.0 e.left ≡ instance (λ x. c.bound (g.0 x)) e.left =
        p.1 ∙ sym c.matches ∙ sym (ap (instance c.bound) g.1) ∙ after g.0 c.bound e.left in
        let m = moved p.0 (λ x. c.bound (g.0 x)) e.premises (λ x o. agree p.0 (λ x. c.bound (g.0 x)) e.left q x (t.premises x o)) p.2 in
        subst (Each (PremiseMakes theory c.bound)) (sym g.2) (under_names g.0 c.bound e.premises m)

    refuted_one : (e : ConditionalEquation) (ps : List Premise) → HasNoLooseVariables e → IsAsked f vs e → IsOfGroup c.left ps e →
        Each (PremiseMeets theory c.bound) ps → ⊥
    refuted_one e ps t (inl no_match) g h =
        no_match (λ x. c.bound (g.0 x)) (sym (after g.0 c.bound e.left) ∙ ap (instance c.bound) g.1 ∙ c.matches)
    refuted_one e ps t (inr p) g h =
        let q : instance p.0 e.left ≡ instance (λ x. c.bound (g.0 x)) e.left =
        p.1 ∙ sym c.matches ∙ sym (ap (instance c.bound) g.1) ∙ after g.0 c.bound e.left in
        not_failing p.0 c.bound g.0 e.premises (λ x o. agree p.0 (λ x. c.bound (g.0 x)) e.left q x (t.premises x o)) p.3
        (subst (Each (PremiseMeets theory c.bound)) g.2 h)

    known : (es : List ConditionalEquation) (ps : List Premise) → Each HasNoLooseVariables es → Each (IsAsked f vs) es →
        OneOf (IsOfGroup c.left ps) es → Each (PremiseMakes theory c.bound) ps
    known [] ps t p i = absurd i
    known (e ∷ es) ps t p (inl g) = known_one e ps t.0 p.0 g
    known (e ∷ es) ps t p (inr i) = known es ps t.1 p.1 i

    refuted : (es : List ConditionalEquation) (ps : List Premise) → Each HasNoLooseVariables es → Each (IsAsked f vs) es →
        OneOf (IsOfGroup c.left ps) es → Each (PremiseMeets theory c.bound) ps → ⊥
    refuted [] ps t p i h = i
    refuted (e ∷ es) ps t p (inl g) h = refuted_one e ps t.0 p.0 g h
    refuted (e ∷ es) ps t p (inr i) h = refuted es ps t.1 p.1 i h

    all_known : Each (IsAsked f vs) theory.equations → (ls : List (List Premise)) →
        Each (λ ps. OneOf (IsOfGroup c.left ps) theory.equations) ls → Each (Each (PremiseMakes theory c.bound)) ls
    all_known p [] g = tt
    all_known p (l ∷ ls) g = (known theory.equations l ex.orthogonal.closed p g.0, all_known p ls g.1)

    in_group : (m : List Premise) (ls : List (List Premise)) → Each (λ ps. OneOf (IsOfGroup c.left ps) theory.equations) ls →
        OneOf (λ x. m ≡ x) ls → OneOf (IsOfGroup c.left m) theory.equations
    in_group m [] g i = absurd i
    in_group m (l ∷ ls) g (inl q) = subst (λ x. OneOf (IsOfGroup c.left x) theory.equations) (sym q) g.0
    in_group m (l ∷ ls) g (inr i) = in_group m ls g.1 i

    never : Each (IsAsked f vs) theory.equations → ⊥
    never p =
        one_applies theory ex c.vars c.bound
        (λ t sort h q v. let k = constant_of v.0 sort v.3
        (keeps_sort theory ex.orthogonal.closed (sorted_of theory ex) v.2 sort
        (instance_sort theory c.vars c.bound t sort h (λ x a o e. c.sorts x a e))) q in
        (k.0, k.1, (v.1, subst (λ u. Evaluates theory (instance c.bound t) u v.1) k.2 v.2)))
        c.full (all_known p c.lists c.group.from_equations)
        (λ m i h. refuted theory.equations m ex.orthogonal.closed p (in_group m c.lists c.group.from_equations i) h)

  pub staying_ends : Ends theory
  staying_ends f vs fit still passed sort given closed = by_kind (constructor_tells theory f)
    where
      values_constructed : AreConstructed theory vs
      values_constructed =
          let d = declared_as (λ d. HaveSorts theory no_variables vs d.args) (slice_get theory.operations f) fit in
          all_constructed theory vs d.0.args still d.2 (closed_arguments theory f sort d.0 d.1 given closed)

      by_kind : Tells (IsConstructor theory f) → IsConstructor theory f
      by_kind (inl c) = c
      by_kind (inr d) =
          absurd (closed (by_partial f given (record {
            defined = d;
            arguments = vs;
            sorts = fit;
            constructed = values_constructed;
            uncovered = λ c. never f vs c (all_asked f vs sort fit given closed theory.equations (λ e i. i) passed);
          })))
