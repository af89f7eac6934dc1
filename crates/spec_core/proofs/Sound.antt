-- What a term evaluates to is provably equal to it.
use Rattle.std.proofs.Common.{ℕ, ◌≡◌, List, [], ◌∷◌, refl, sym, ap, subst, ◌∙◌, inl, inr, Option, Some, None}
use Rattle.std.specs.List.{slice_get}
use Rattle.spec_core.specs.Lists.{Each, IsOneOf}
use Rattle.spec_core.specs.Terms.{TermTree, TermTrees, apply, instance, Occurs}
use Rattle.spec_core.specs.Theories.{Premise, ConditionalEquation, Theory, OccursInPremises}
use Rattle.spec_core.specs.Sorts.{OnSome, HasSort, HaveSorts, no_variables, EquationFits, PremiseFits}
use Rattle.spec_core.specs.Equality.{Equal, AreEqual, PremisesHold, IsGroundFor, by_reflexivity, by_symmetry, by_transitivity}
use Rattle.spec_core.specs.Equality.{by_congruence, by_equation, none_equal, more_equal, none_asked, more_asked}
use Rattle.spec_core.specs.Evaluation.{Evaluates, EvaluatesAll, Tries, Asks, called, none, more, final, unlike, like, used, holds, fails}
use Rattle.spec_core.specs.Orthogonality.{HasNoLooseVariables, HasPatterns}
use Rattle.spec_core.specs.Laws.{EvaluationIsSound}
use Rattle.spec_core.proofs.Instances.{on_both, on_map, bound_sort, instance_sort}

on_use : {A : Type 0} {R : Type 0} {P : A → Type 0} (o : Option A) → OnSome o P → ((d : A) → P d → R) → R
on_use None p k = absurd p
on_use (Some d) p k = k d p

module _ (theory : Theory) (e : ConditionalEquation) (fits : EquationFits theory e) (patterns : HasPatterns theory e)
    (closed : HasNoLooseVariables e) (s : ℕ → TermTree) (f : ℕ) (vs : TermTrees) (q : instance s e.left ≡ apply f vs) (sort : ℕ)
    (h : HasSort theory no_variables (apply f vs) sort) where
  -- a call that matches has the sort of the equation
  one_sort : fits.sides.0 ≡ sort
  one_sort =
      let l : HasSort theory (slice_get e.sorts) (apply patterns.0 patterns.1) fits.sides.0 =
      subst (λ u. HasSort theory (slice_get e.sorts) u fits.sides.0) patterns.2 fits.sides.1 in
      let k : HasSort theory no_variables (instance s (apply patterns.0 patterns.1)) sort =
      subst (λ u. HasSort theory no_variables (instance s u) sort) patterns.2
      (subst (λ u. HasSort theory no_variables u sort) (sym q) h) in
      on_both (slice_get theory.operations patterns.0) l k (λ d a b. sym a.0 ∙ b.0)

  left_sort : HasSort theory no_variables (instance s e.left) fits.sides.0
  left_sort =
      subst (λ u. HasSort theory no_variables u fits.sides.0) (sym q)
      (subst (λ b. HasSort theory no_variables (apply f vs) b) (sym one_sort) h)

  of_left : (x a : ℕ) → Occurs x e.left → slice_get e.sorts x ≡ Some a → HasSort theory no_variables (s x) a
  of_left x a o d = bound_sort theory (slice_get e.sorts) s e.left fits.sides.0 fits.sides.1 left_sort x a o d

  pub match_is_ground : IsGroundFor theory e s
  match_is_ground x a (inl o) d = of_left x a o d
  match_is_ground x a (inr (inl o)) d = of_left x a (closed.right x o) d
  match_is_ground x a (inr (inr o)) d = of_left x a (closed.premises x o) d

  pub right_sort : HasSort theory no_variables (instance s e.right) sort
  right_sort =
      subst (λ b. HasSort theory no_variables (instance s e.right) b) one_sort
      (instance_sort theory (slice_get e.sorts) s e.right fits.sides.0 fits.sides.2 (λ x a o d. of_left x a (closed.right x o) d))

record IsSafe (theory : Theory) (e : ConditionalEquation) : Type 0 where
  pub fits : EquationFits theory e
  pub patterns : HasPatterns theory e
  pub closed : HasNoLooseVariables e

all_safe : (theory : Theory) (es : List ConditionalEquation) →
    Each (EquationFits theory) es → Each (HasPatterns theory) es → Each HasNoLooseVariables es → Each (IsSafe theory) es
all_safe theory [] a b c = tt
all_safe theory (e ∷ es) a b c = (record { fits = a.0; patterns = b.0; closed = c.0 }, all_safe theory es a.1 b.1 c.1)

abbrev Reduces : Theory → TermTree → TermTree → ℕ → Type 0
Reduces theory t v sort = Equal theory t v × HasSort theory no_variables v sort

module _ (theory : Theory) where
  mutual
    sound : {t v : TermTree} {n : ℕ} →
        Evaluates theory t v n → Each (IsSafe theory) theory.equations → (sort : ℕ) → HasSort theory no_variables t sort →
        Reduces theory t v sort
    sound (called {f} {ts} vs n m a b k) safe sort h =
        let equal : AreEqual theory ts vs = on_use (slice_get theory.operations f) h (λ d p. (sounds a safe d.args p.1).0) in
        let fits : HasSort theory no_variables (apply f vs) sort =
        on_map (slice_get theory.operations f) h (λ d p. (p.0, (sounds a safe d.args p.1).1)) in
        let rest = sound_try b safe sort fits (λ d i. i) safe in
        (by_transitivity (apply f vs) (by_congruence (sort, h) equal) rest.0, rest.1)

    sounds : {ts vs : TermTrees} {n : ℕ} →
        EvaluatesAll theory ts vs n → Each (IsSafe theory) theory.equations → (sorts : List ℕ) →
        HaveSorts theory no_variables ts sorts → AreEqual theory ts vs × HaveSorts theory no_variables vs sorts
    sounds (none k) safe sorts h = (none_equal, h)
    sounds (more n m a b k) safe [] h = absurd h
    sounds (more n m a b k) safe (c ∷ sorts) h =
        let x = sound a safe c h.0 in
        let y = sounds b safe sorts h.1 in
        (more_equal x.0 y.0, (x.1, y.1))

    sound_try : {es : List ConditionalEquation} {f : ℕ} {vs : TermTrees} {v : TermTree} {n : ℕ} →
        Tries theory es f vs v n → Each (IsSafe theory) theory.equations → (sort : ℕ) → HasSort theory no_variables (apply f vs) sort →
        ((e : ConditionalEquation) → IsOneOf e es → IsOneOf e theory.equations) → Each (IsSafe theory) es →
        Reduces theory (apply f vs) v sort
    sound_try (final {f} {vs} e k) safe sort h among left =
        subst (λ v. Reduces theory (apply f vs) v sort) (sym e) (by_reflexivity (sort, h), h)
    sound_try (unlike x a) safe sort h among left = sound_try a safe sort h (λ d i. among d (inr i)) left.1
    sound_try (like {e = e} {f = f} {vs = vs} s q a) safe sort h among left =
        let w = left.0 in
        sound_ask a safe sort h (λ d i. among d (inr i)) left.1 e (among e (inl refl)) w q refl
        (match_is_ground theory e w.fits w.patterns w.closed s f vs q sort h)
        (right_sort theory e w.fits w.patterns w.closed s f vs q sort h)
        w.fits.premises (λ x o. o) (λ held. held)

    sound_ask :
        {ps : List Premise} {r : TermTree} {s : ℕ → TermTree} {es : List ConditionalEquation} {f : ℕ} {vs : TermTrees} {v : TermTree}
        {n : ℕ} →
        Asks theory ps r s es f vs v n → Each (IsSafe theory) theory.equations → (sort : ℕ) →
        HasSort theory no_variables (apply f vs) sort → ((e : ConditionalEquation) → IsOneOf e es → IsOneOf e theory.equations) →
        Each (IsSafe theory) es →
        (e : ConditionalEquation) → IsOneOf e theory.equations → IsSafe theory e → instance s e.left ≡ apply f vs → r ≡ e.right →
        IsGroundFor theory e s → HasSort theory no_variables (instance s e.right) sort →
        Each (PremiseFits theory (slice_get e.sorts)) ps → ((x : ℕ) → OccursInPremises x ps → OccursInPremises x e.premises) →
        (PremisesHold theory s ps → PremisesHold theory s e.premises) → Reduces theory (apply f vs) v sort
    sound_ask {r = r} {s = s} (used n a k) safe sort h among left e i w q c ground right fit inside held =
        let x = sound a safe sort (subst (λ u. HasSort theory no_variables (instance s u) sort) (sym c) right) in
        (by_transitivity (instance s r) (by_equation e s i ground (held none_asked) (sym q) (ap (instance s) c)) x.0, x.1)
    sound_ask {s = s} (holds {a = a} {b = b} u n m k d1 d2 d3 z) safe sort h among left e i w q c ground right fit inside held =
        let x =
        sound d1 safe fit.0.0
        (instance_sort theory (slice_get e.sorts) s a fit.0.0 fit.0.1 (λ y p o. ground y p (inr (inr (inside y (inl o)))))) in
        let y =
        sound d2 safe fit.0.0
        (instance_sort theory (slice_get e.sorts) s b fit.0.0 fit.0.2 (λ y p o. ground y p (inr (inr (inside y (inr (inl o))))))) in
        sound_ask d3 safe sort h among left e i w q c ground right fit.1 (λ y o. inside y (inr (inr o)))
        (λ more. held (more_asked (by_transitivity u x.0 (by_symmetry y.0)) more))
    sound_ask (fails u z n m k d1 d2 ne d3 t) safe sort h among left e i w q c ground right fit inside held =
        sound_try d3 safe sort h among left

pub evaluation_is_sound : EvaluationIsSound
evaluation_is_sound theory ex t v n fits evaluates =
    (sound theory evaluates (all_safe theory theory.equations ex.fits.equations ex.orthogonal.patterns ex.orthogonal.closed) fits.0 fits.1).0
