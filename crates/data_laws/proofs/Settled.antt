-- What evaluation leaves is settled, and it leaves what is settled as it is.
use Rattle.std.proofs.Common.{ℕ, ◌≡◌, List, [], ◌∷◌, refl, sym, subst, ◌∙◌, inl, inr}
use Rattle.std.specs.List.{slice_get}
use Rattle.spec_core.specs.Lists.{Each, IsOneOf}
use Rattle.spec_core.specs.Terms.{TermTree, TermTrees, variable, apply, no_terms, and_term, instance}
use Rattle.spec_core.specs.Theories.{Premise, premise, ConditionalEquation, Theory, OccursInPremises}
use Rattle.spec_core.specs.Sorts.{HasSort, HaveSorts, no_variables, FitsGround, EquationFits, PremiseFits}
use Rattle.spec_core.specs.Constructors.{IsConstructed}
use Rattle.spec_core.specs.Equality.{PremisesHold, IsGroundFor, by_symmetry, by_transitivity, none_asked, more_asked}
use Rattle.spec_core.specs.Evaluation.{Evaluates, EvaluatesAll, Tries, Asks, called, none, more, final, unlike, like, used, holds, fails}
use Rattle.spec_core.specs.Executable.{IsExecutable}
use Rattle.spec_core.specs.OpenSorts.{IsOpen}
use Rattle.spec_core.specs.Orthogonality.{HasPatterns, HasNoLooseVariables}
use Rattle.spec_core.specs.Values.{Applies, IsSettled, AreSettled, IsValue, HasValue}
use Rattle.spec_core.proofs.Definitions.{constructor_terms_stay}
use Rattle.spec_core.proofs.Instances.{instance_sort}
use Rattle.spec_core.proofs.Members.{each_one}
use Rattle.spec_core.proofs.OneValue.{one_value, agree, same_instance}
use Rattle.spec_core.proofs.Sound.{match_is_ground, evaluation_is_sound}
use Rattle.data_laws.proofs.Conditions.{sorted_of}
use Rattle.data_laws.proofs.Fit.{fits_sorted, on_use}
use Rattle.data_laws.proofs.Sorted.{keeps_sort}
use Rattle.data_laws.proofs.Staying.{constructed}
use Rattle.data_laws.proofs.Still.{AllFail, IsRefuted, IsStill, AreStill}
use Rattle.data_laws.proofs.Values.{value_of, class_of}

module _ (theory : Theory) (ex : IsExecutable theory) where
  -- premises that hold aren't all refuted
  not_failing : (s z : ℕ → TermTree) (ps : List Premise) → ((x : ℕ) → OccursInPremises x ps → s x ≡ z x) → AllFail theory s ps →
      PremisesHold theory z ps → ⊥
  not_failing s z [] e f h = f
  not_failing s z (premise a b ∷ ps) e (inr f) (more_asked q h) = not_failing s z ps (λ x o. e x (inr (inr o))) f h
  not_failing s z (premise a b ∷ ps) e (inl f) (more_asked q h) =
      let k = class_of theory ex (instance z a) (instance z b) q in
      let l = subst (λ u. Evaluates theory u k.value k.cost) (sym (same_instance s z a (λ x o. e x (inl o)))) k.left in
      let r = subst (λ u. Evaluates theory u k.value k.other_cost) (sym (same_instance s z b (λ x o. e x (inr (inl o))))) k.right in
      f.6 ((one_value theory ex.orthogonal.closed f.4 l).0 ∙ sym (one_value theory ex.orthogonal.closed f.5 r).0)

  -- an equation that doesn't apply in an evaluation doesn't apply at all
  refuses : (f : ℕ) (vs : TermTrees) (e : ConditionalEquation) → HasNoLooseVariables e → IsRefuted theory f vs e →
      Applies theory e (apply f vs) → ⊥
  refuses f vs e t (inl unmatched) a = unmatched a.substitution a.matches
  refuses f vs e t (inr m) a =
      let g : instance m.0 e.left ≡ instance a.substitution e.left = m.1 ∙ sym a.matches in
      not_failing m.0 a.substitution e.premises (λ x o. agree m.0 a.substitution e.left g x (t.premises x o)) m.2 a.hold

  all_refuse : (f : ℕ) (vs : TermTrees) (es : List ConditionalEquation) → Each HasNoLooseVariables es →
      Each (IsRefuted theory f vs) es → Each (λ e. Applies theory e (apply f vs) → ⊥) es
  all_refuse f vs [] t h = tt
  all_refuse f vs (e ∷ es) t h = (refuses f vs e t.0 h.0, all_refuse f vs es t.1 h.1)

  mutual
    settled : (v : TermTree) → IsStill theory v → IsSettled theory v
    settled (variable x) h = h
    settled (apply f vs) h = (all_settled vs h.0, all_refuse f vs theory.equations ex.orthogonal.closed h.3)

    all_settled : (vs : TermTrees) → AreStill theory vs → AreSettled theory vs
    all_settled no_terms h = tt
    all_settled (and_term v vs) h = (settled v h.0, all_settled vs h.1)

  mutual
    -- a call to which no equation applies stays
    stays : {es : List ConditionalEquation} {f : ℕ} {vs : TermTrees} {w : TermTree} {n : ℕ} → Tries theory es f vs w n → (sort : ℕ) →
        HasSort theory no_variables (apply f vs) sort → ((e : ConditionalEquation) → IsOneOf e es → IsOneOf e theory.equations) →
        Each (λ e. Applies theory e (apply f vs) → ⊥) es → w ≡ apply f vs
    stays (final e k) sort h among never = e
    stays (unlike x a) sort h among never = stays a sort h (λ d i. among d (inr i)) never.1
    stays (like {e = e} {f = f} {vs = vs} s q a) sort h among never =
        let i = among e (inl refl) in
        let fits = each_one (EquationFits theory) theory.equations e ex.fits.equations i in
        let patterns = each_one (HasPatterns theory) theory.equations e ex.orthogonal.patterns i in
        let t = each_one HasNoLooseVariables theory.equations e ex.orthogonal.closed i in
        asks_stay a sort h (λ d j. among d (inr j)) never.1 e q (match_is_ground theory e fits patterns t s f vs q sort h) fits.premises
        (λ x o. o) (λ held. held) never.0

    asks_stay : {ps : List Premise} {r : TermTree} {s : ℕ → TermTree} {es : List ConditionalEquation} {f : ℕ} {vs : TermTrees}
        {w : TermTree} {n : ℕ} → Asks theory ps r s es f vs w n → (sort : ℕ) → HasSort theory no_variables (apply f vs) sort →
        ((e : ConditionalEquation) → IsOneOf e es → IsOneOf e theory.equations) → Each (λ e. Applies theory e (apply f vs) → ⊥) es →
        (e : ConditionalEquation) → instance s e.left ≡ apply f vs → IsGroundFor theory e s →
        Each (PremiseFits theory (slice_get e.sorts)) ps → ((x : ℕ) → OccursInPremises x ps → OccursInPremises x e.premises) →
        (PremisesHold theory s ps → PremisesHold theory s e.premises) → (Applies theory e (apply f vs) → ⊥) → w ≡ apply f vs
    asks_stay {s = s} (used n a k) sort h among never e q ground fits inside held applies =
        absurd (applies (record { substitution = s; ground = ground; matches = q; hold = held none_asked }))
    asks_stay {s = s} (holds {a = a} {b = b} u n m l x y z k) sort h among never e q ground fits inside held applies =
        let left = instance_sort theory (slice_get e.sorts) s a fits.0.0 fits.0.1
        (λ v c o d. ground v c (inr (inr (inside v (inl o)))) d) in
        let right = instance_sort theory (slice_get e.sorts) s b fits.0.0 fits.0.2
        (λ v c o d. ground v c (inr (inr (inside v (inr (inl o))))) d) in
        let same = by_transitivity u (evaluation_is_sound theory ex (instance s a) u n (fits.0.0, left) x)
        (by_symmetry (evaluation_is_sound theory ex (instance s b) u m (fits.0.0, right) y)) in
        asks_stay z sort h among never e q ground fits.1 (λ v o. inside v (inr (inr o))) (λ rest. held (more_asked same rest)) applies
    asks_stay (fails u v n m l x y ne z k) sort h among never e q ground fits inside held applies = stays z sort h among never

  mutual
    -- evaluation leaves a settled term as it is
    pub settled_value : {v w : TermTree} {k : ℕ} → Evaluates theory v w k → (sort : ℕ) → HasSort theory no_variables v sort →
        IsSettled theory v → w ≡ v
    settled_value {w = w} (called {f} {ts} vs n m a b k) sort h never =
        let e : vs ≡ ts = on_use (slice_get theory.operations f) h (λ d p. settled_values a d.args p.1 never.0) in
        stays (subst (λ us. Tries theory theory.equations f us w m) e b) sort h (λ d i. i) never.1

    settled_values : {ts vs : TermTrees} {k : ℕ} → EvaluatesAll theory ts vs k → (sorts : List ℕ) →
        HaveSorts theory no_variables ts sorts → AreSettled theory ts → vs ≡ ts
    settled_values (none k) sorts h never = refl
    settled_values (more n m a b k) [] h never = absurd h
    settled_values (more n m a b k) (c ∷ sorts) h never =
        let x = settled_value a c h.0 never.0 in
        let y = settled_values b sorts h.1 never.1 in
        cc

  -- a value evaluates to itself
  pub own_value : (v : TermTree) → IsValue theory v → (n : ℕ) × Evaluates theory v v n
  own_value v h =
      let s = value_of theory ex v (fits_sorted theory v h.fits.0 h.fits.1) in
      (s.1, subst (λ w. Evaluates theory v w s.1) (settled_value s.2 h.fits.0 h.fits.1 h.settled) s.2)

  -- what a term evaluates to is its value
  pub evaluation_gives_values : (t v : TermTree) (n : ℕ) → FitsGround theory t → Evaluates theory t v n → HasValue theory t v
  evaluation_gives_values t v n fits evaluates =
      let s = value_of theory ex t (fits_sorted theory t fits.0 fits.1) in
      let e : s.0 ≡ v = (one_value theory ex.orthogonal.closed s.2 evaluates).0 in
      record {
        is_value = record {
          fits = (fits.0, keeps_sort theory ex.orthogonal.closed (sorted_of theory ex) evaluates fits.0 fits.1);
          settled = settled v (subst (IsStill theory) e s.3);
        };
        equal = evaluation_is_sound theory ex t v n fits evaluates;
      }

  pub constructor_term_is_value : (t : TermTree) → FitsGround theory t → IsConstructed theory t → IsValue theory t
  constructor_term_is_value t fits c = (evaluation_gives_values t t 0 fits (constructor_terms_stay theory ex t c)).is_value

  pub value_of_closed_sort : (v : TermTree) (sort : ℕ) → IsValue theory v → HasSort theory no_variables v sort →
      (IsOpen theory sort → ⊥) → IsConstructed theory v
  value_of_closed_sort v sort h fits closed =
      let s = value_of theory ex v (fits_sorted theory v sort fits) in
      constructed theory v sort (subst (IsStill theory) (settled_value s.2 sort fits h.settled) s.3) fits closed
