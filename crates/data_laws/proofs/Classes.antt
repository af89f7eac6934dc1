-- Terms that are provably equal have one value.
use Rattle.std.proofs.Common.{ℕ, ◌≡◌, ◌+◌, List, [], ◌∷◌, refl, sym, ap, subst, ◌∙◌, inl, inr, Option, Some}
use Rattle.std.specs.List.{slice_get}
use Rattle.spec_core.specs.Lists.{Each, OneOf, IsOneOf}
use Rattle.spec_core.specs.Terms.{TermTree, TermTrees, variable, apply, no_terms, and_term, instance, instances, Occurs, OccursInAny}
use Rattle.spec_core.specs.Theories.{Premise, premise, ConditionalEquation, Theory, OccursInPremises}
use Rattle.spec_core.specs.Sorts.{HasSort, HaveSorts, no_variables, EquationFits, PremiseFits}
use Rattle.spec_core.specs.Constructors.{IsPattern, ArePatterns}
use Rattle.spec_core.specs.Orthogonality.{HasPatterns, HasNoLooseVariables, renamed, IsAmong, AreApart, AllApart}
use Rattle.spec_core.specs.Evaluation.{Evaluates, EvaluatesAll, Tries, Asks, called, none, more, final, unlike, like, used, holds, fails}
use Rattle.spec_core.specs.Equality.{Equal, AreEqual, PremisesHold, IsGroundFor, by_reflexivity, by_symmetry, by_transitivity}
use Rattle.spec_core.specs.Equality.{by_congruence, by_equation, none_equal, more_equal, none_asked, more_asked}
use Rattle.spec_core.specs.Executable.{IsExecutable}
use Rattle.spec_core.proofs.OneValue.{one_value, agree, same_instance}
use Rattle.data_laws.proofs.Matching.{either, Tells, number}
use Rattle.data_laws.proofs.Still.{IsStill, AreStill, own_value, own_values}
use Rattle.data_laws.proofs.Sorted.{keeps_sort}
use Rattle.spec_core.proofs.Instances.{on_map, instance_sort}
use Rattle.spec_core.proofs.Members.{each_one}
use Rattle.data_laws.proofs.Fit.{IsFit, Fits, fits_sorted, fit_values, on_use}
use Rattle.data_laws.proofs.Exists.{Settles, CallSettles, constructor_stays, constructor_may_stay, constructor_refutes}
use Rattle.data_laws.proofs.Conditions.{headed_of, bare_of, sorted_of, declared}
use Rattle.data_laws.proofs.Given.{Meet, PremiseMeets, given_value}
use Rattle.data_laws.proofs.Renaming.{after}

-- both terms have this value
pub record SameValue (theory : Theory) (a b : TermTree) : Type 0 where
  pub value : TermTree
  pub cost : ℕ
  pub other_cost : ℕ
  pub left : Evaluates theory a value cost
  pub right : Evaluates theory b value other_cost
  pub still : IsStill theory value

pub record SameValues (theory : Theory) (ts us : TermTrees) : Type 0 where
  pub values : TermTrees
  pub cost : ℕ
  pub other_cost : ℕ
  pub left : EvaluatesAll theory ts values cost
  pub right : EvaluatesAll theory us values other_cost
  pub still : AreStill theory values

abbrev pub PremiseIsSame : Theory → (ℕ → TermTree) → Premise → Type 0
PremiseIsSame theory s (premise a b) = SameValue theory (instance s a) (instance s b)

mutual
  occurs : (x : ℕ) (t : TermTree) → Tells (Occurs x t)
  occurs x (variable y) = number x y
  occurs x (apply f ts) = occurs_any x ts

  occurs_any : (x : ℕ) (ts : TermTrees) → Tells (OccursInAny x ts)
  occurs_any x no_terms = inr (λ h. h)
  occurs_any x (and_term t ts) = either (occurs x t) (occurs_any x ts)

module _ (theory : Theory) (ex : IsExecutable theory)
    (settles : (t : TermTree) → Fits theory t → Settles theory t)
    (call_settles : (f : ℕ) (vs : TermTrees) → IsFit theory f vs → AreStill theory vs → CallSettles theory f vs) where
  reflexive : (t : TermTree) (sort : ℕ) → HasSort theory no_variables t sort → SameValue theory t t
  reflexive t sort h = let a = settles t (fits_sorted theory t sort h) in
      record { value = a.0; cost = a.1; other_cost = a.1; left = a.2; right = a.2; still = a.3 }

  turned : {a b : TermTree} → SameValue theory a b → SameValue theory b a
  turned h = record { value = h.value; cost = h.other_cost; other_cost = h.cost; left = h.right; right = h.left; still = h.still }

  chained : {a b c : TermTree} → SameValue theory a c → SameValue theory c b → SameValue theory a b
  chained {b = b} h k = record {
    value = h.value;
    cost = h.cost;
    other_cost = k.other_cost;
    left = h.left;
    right = subst (λ v. Evaluates theory b v k.other_cost) (one_value theory ex.orthogonal.closed k.left h.right).0 k.right;
    still = h.still;
  }

  under : (f : ℕ) {ts us : TermTrees} → IsFit theory f ts → SameValues theory ts us → SameValue theory (apply f ts) (apply f us)
  under f fit h =
      let c = call_settles f h.values (fit_values theory ex.orthogonal.closed (sorted_of theory ex) f h.left fit) h.still in
      record {
        value = c.0;
        cost = h.cost + c.1;
        other_cost = h.other_cost + c.1;
        left = called h.values h.cost c.1 h.left c.2 refl;
        right = called h.values h.other_cost c.1 h.right c.2 refl;
        still = c.3;
      }

  beside : {t u : TermTree} {ts us : TermTrees} → SameValue theory t u → SameValues theory ts us →
      SameValues theory (and_term t ts) (and_term u us)
  beside a b = record {
    values = and_term a.value b.values;
    cost = a.cost + b.cost;
    other_cost = a.other_cost + b.other_cost;
    left =
        more a.cost b.cost a.left b.left refl;
    right = more a.other_cost b.other_cost a.right b.right refl;
    still = (a.still, b.still);
  }

  alone : SameValues theory no_terms no_terms
  alone = record { values = no_terms; cost = 0; other_cost = 0; left = none refl; right = none refl; still = tt }

  -- a term under a substitution has the value that it has under the substitution's values
  module _ (vars : ℕ → Option ℕ) (s z : ℕ → TermTree) where
    mutual
      pub through : (t : TermTree) (sort : ℕ) → HasSort theory vars t sort → ((x : ℕ) → Occurs x t → SameValue theory (s x) (z x)) →
          ((x a : ℕ) → Occurs x t → vars x ≡ Some a → HasSort theory no_variables (s x) a) →
          SameValue theory (instance s t) (instance z t)
      through (variable x) sort h g k = g x refl
      through (apply f ts) sort h g k =
          let i = instance_sort theory vars s (apply f ts) sort h k in
          under f (on_map (slice_get theory.operations f) i (λ d p. p.1))
          (on_use (slice_get theory.operations f) h (λ d p. through_all ts d.args p.1 g k))

      through_all : (ts : TermTrees) (sorts : List ℕ) → HaveSorts theory vars ts sorts →
          ((x : ℕ) → OccursInAny x ts → SameValue theory (s x) (z x)) →
          ((x a : ℕ) → OccursInAny x ts → vars x ≡ Some a → HasSort theory no_variables (s x) a) →
          SameValues theory (instances s ts) (instances z ts)
      through_all no_terms sorts h g k = alone
      through_all (and_term t ts) [] h g k = absurd h
      through_all (and_term t ts) (c ∷ sorts) h g k =
          beside (through t c h.0 (λ x o. g x (inl o)) (λ x a o e. k x a (inl o) e))
          (through_all ts sorts h.1 (λ x o. g x (inr o)) (λ x a o e. k x a (inr o) e))

    premises_through : (ps : List Premise) → Each (PremiseFits theory vars) ps →
        ((x : ℕ) → OccursInPremises x ps → SameValue theory (s x) (z x)) →
        ((x a : ℕ) → OccursInPremises x ps → vars x ≡ Some a → HasSort theory no_variables (s x) a) → Each (PremiseIsSame theory s) ps →
        Each (PremiseIsSame theory z) ps
    premises_through [] f g k h = tt
    premises_through (premise a b ∷ ps) f g k h =
        let l = through a f.0.0 f.0.1 (λ x o. g x (inl o)) (λ x c o e. k x c (inl o) e) in
        let r = through b f.0.0 f.0.2 (λ x o. g x (inr (inl o))) (λ x c o e. k x c (inr (inl o)) e) in
        (chained (turned l) (chained h.0 r), premises_through ps f.1 (λ x o. g x (inr (inr o))) (λ x c o e. k x c (inr (inr o)) e) h.1)

  -- a pattern over values is a value
  module _ (z : ℕ → TermTree) where
    mutual
      pattern_is_still : (p : TermTree) → IsPattern theory p → ((x : ℕ) → Occurs x p → IsStill theory (z x)) → IsStill theory (instance z p)
      pattern_is_still (variable x) h k = k x refl
      pattern_is_still (apply f ps) h k =
          let c = bare_of theory ex f h.0 in (
            patterns_are_still ps h.1 k,
            constructor_may_stay theory f h.0,
            (0, constructor_stays theory theory.equations f (instances z ps) (headed_of theory ex) c),
            constructor_refutes theory theory.equations f (instances z ps) (headed_of theory ex) c,
          )

      patterns_are_still : (ps : TermTrees) → ArePatterns theory ps → ((x : ℕ) → OccursInAny x ps → IsStill theory (z x)) →
          AreStill theory (instances z ps)
      patterns_are_still no_terms h k = tt
      patterns_are_still (and_term p ps) h k = (pattern_is_still p h.0 (λ x o. k x (inl o)), patterns_are_still ps h.1 (λ x o. k x (inr o)))

  -- what holds of each of two equations' premises holds of each among them
  among : (r : ℕ → ℕ) (s z : ℕ → TermTree) (ps qs : List Premise) → ((x : ℕ) → OccursInPremises x ps → s x ≡ z (r x)) →
      Each (PremiseMeets theory s) ps → Each (PremiseMeets theory z) qs → (p : Premise) → IsAmong r ps qs p → PremiseMeets theory z p
  among r s z ps qs e hp hq p (inl i) = first ps e hp i
    where
      first : (ps : List Premise) → ((x : ℕ) → OccursInPremises x ps → s x ≡ z (r x)) → Each (PremiseMeets theory s) ps →
          OneOf (λ x. p ≡ renamed r x) ps → PremiseMeets theory z p
      first [] e h i = absurd i
      first (premise a b ∷ ps) e h (inl q) =
          let x : instance s a ≡ instance z (instance (λ x. variable (r x)) a) =
          same_instance s (λ x. z (r x)) a (λ x o. e x (inl o)) ∙ sym (after r z a) in
          let y : instance s b ≡ instance z (instance (λ x. variable (r x)) b) =
          same_instance s (λ x. z (r x)) b (λ x o. e x (inr (inl o))) ∙ sym (after r z b) in
          let m = subst (λ u. Meet theory u (instance z (instance (λ x. variable (r x)) b))) x
          (subst (λ u. Meet theory (instance s a) u) y h.0) in
          subst (PremiseMeets theory z) (sym q) m
      first (premise a b ∷ ps) e h (inr i) = first ps (λ x o. e x (inr (inr o))) h.1 i
  among r s z ps qs e hp hq p (inr i) = each_one (PremiseMeets theory z) qs p hq i

  -- two equations that are apart don't both apply to one call
  never_both : (e d : ConditionalEquation) → HasNoLooseVariables e → AreApart theory e d → (s z : ℕ → TermTree) →
      instance s e.left ≡ instance z d.left → Each (PremiseMeets theory s) e.premises → Each (PremiseMeets theory z) d.premises → ⊥
  never_both e d t (inl a) s z q hs hz = a s z q
  never_both e d t (inr x) s z q hs hz =
      let g : instance s e.left ≡ instance (λ y. z (x.name y)) e.left = q ∙ ap (instance z) (sym x.lefts) ∙ after x.name z e.left in
      let u = λ (y : ℕ) (o : OccursInPremises y e.premises). agree s (λ y. z (x.name y)) e.left g y (t.premises y o) in
      let m = given_value theory ex z x.p x.term x.one x.gives_one (among x.name s z e.premises d.premises u hs hz x.p x.here) in
      let n = given_value theory ex z x.q x.term x.other x.gives_other (among x.name s z e.premises d.premises u hs hz x.q x.there) in
      let c = (one_value theory ex.orthogonal.closed m.1 n.1).0 in
      x.differ (cc)

  premises_meet : (z : ℕ → TermTree) (ps : List Premise) → Each (PremiseIsSame theory z) ps → Each (PremiseMeets theory z) ps
  premises_meet z [] h = tt
  premises_meet z (premise a b ∷ ps) h = (
    record { value = h.0.value; cost = h.0.cost; other_cost = h.0.other_cost; left = h.0.left; right = h.0.right },
    premises_meet z ps h.1,
  )

  -- where all premises hold, the right side's value is the value
  here : {ps : List Premise} {r : TermTree} {z : ℕ → TermTree} {es : List ConditionalEquation} {f : ℕ} {vs : TermTrees} {v : TermTree}
      {k : ℕ} → Asks theory ps r z es f vs v k → Each (PremiseMeets theory z) ps → (w : TermTree) (m : ℕ) →
      Evaluates theory (instance z r) w m → v ≡ w
  here (used n a e) h w m b = (one_value theory ex.orthogonal.closed a b).0
  here (holds u n m l a b c e) h w i j = here c h.1 w i j
  here (fails u x n m l a b ne c e) h w i j =
      absurd (ne ((one_value theory ex.orthogonal.closed a h.0.left).0 ∙ sym (one_value theory ex.orthogonal.closed b h.0.right).0))

  premises_agree : (s z : ℕ → TermTree) (ps : List Premise) → ((x : ℕ) → OccursInPremises x ps → s x ≡ z x) →
      Each (PremiseMeets theory s) ps → Each (PremiseMeets theory z) ps
  premises_agree s z [] e h = tt
  premises_agree s z (premise a b ∷ ps) e h = (
    subst (λ u. Meet theory u (instance z b)) (same_instance s z a (λ x o. e x (inl o)))
        (subst (λ u. Meet theory (instance s a) u) (same_instance s z b (λ x o. e x (inr (inl o)))) h.0),
    premises_agree s z ps (λ x o. e x (inr (inr o))) h.1,
  )

  module _ (e : ConditionalEquation) (s : ℕ → TermTree) (hs : Each (PremiseMeets theory s) e.premises) (w : TermTree) (m : ℕ)
      (right : Evaluates theory (instance s e.right) w m) where
    same_one : {d : ConditionalEquation} {es : List ConditionalEquation} {f : ℕ} {vs : TermTrees} {v : TermTree} {k : ℕ}
        (z : ℕ → TermTree) → HasNoLooseVariables d → e ≡ d → instance s e.left ≡ instance z d.left →
        Asks theory d.premises d.right z es f vs v k → v ≡ w
    same_one {d = d} z t q g a =
        let i : instance s d.left ≡ instance z d.left = subst (λ x. instance s x.left ≡ instance z d.left) q g in
        let h = premises_agree s z d.premises (λ x o. agree s z d.left i x (t.premises x o))
        (subst (λ x. Each (PremiseMeets theory s) x.premises) q hs) in
        let j = same_instance s z d.right (λ x o. agree s z d.left i x (t.right x o)) in
        here a h w m (subst (λ x. Evaluates theory x w m) j (subst (λ x. Evaluates theory (instance s x.right) w m) q right))

    mutual
      chosen : {es : List ConditionalEquation} {f : ℕ} {vs : TermTrees} {v : TermTree} {k : ℕ} → Tries theory es f vs v k → IsOneOf e es →
          AllApart theory es → Each HasNoLooseVariables es → instance s e.left ≡ apply f vs → v ≡ w
      chosen (final p q) o a t g = absurd o
      chosen (unlike {f = f} {vs = vs} h r) (inl q) a t g = absurd (h s (subst (λ d. instance s d.left ≡ apply f vs) q g))
      chosen (unlike h r) (inr o) a t g = chosen r o a.1 t.1 g
      chosen (like {e = d} z q b) (inl p) a t g = same_one z t.0 p (g ∙ sym q) b
      chosen (like {e = d} {es = es} z q b) (inr o) a t g =
          later b o a.1 t.1 g (λ hz. never_both d e t.0 (each_one (AreApart theory d) es e a.0 o) z s (q ∙ sym g) hz hs)

      later : {ps : List Premise} {r : TermTree} {z : ℕ → TermTree} {es : List ConditionalEquation} {f : ℕ} {vs : TermTrees}
          {v : TermTree} {k : ℕ} → Asks theory ps r z es f vs v k → IsOneOf e es → AllApart theory es → Each HasNoLooseVariables es →
          instance s e.left ≡ apply f vs → (Each (PremiseMeets theory z) ps → ⊥) → v ≡ w
      later (used n a q) o p t g no_way = absurd (no_way tt)
      later (holds u n m l a b c q) o p t g no_way =
          later c o p t g (λ h. no_way (record { value = u; cost = n; other_cost = m; left = a; right = b }, h))
      later (fails u x n m l a b ne c q) o p t g no_way = chosen c o p t g

  -- where both sides of every premise have one value under values, so have the two sides
  one_equation : (e : ConditionalEquation) → IsOneOf e theory.equations → (z : ℕ → TermTree) →
      ((x : ℕ) → Occurs x e.left → IsStill theory (z x)) → (sort : ℕ) → HasSort theory no_variables (instance z e.left) sort →
      Each (PremiseIsSame theory z) e.premises → Settles theory (instance z e.right) →
      SameValue theory (instance z e.left) (instance z e.right)
  one_equation e i z still sort fits h r =
      let p = each_one (HasPatterns theory) theory.equations e ex.orthogonal.patterns i in
      let a = patterns_are_still z p.1 p.3 (λ x o. still x (subst (Occurs x) (sym p.2) o)) in
      let own = own_values theory (instances z p.1) a in
      let q : instance z e.left ≡ apply p.0 (instances z p.1) = ap (instance z) p.2 in
      let fit : IsFit theory p.0 (instances z p.1) =
      on_map (slice_get theory.operations p.0) (subst (λ t. HasSort theory no_variables t sort) q fits) (λ d k. k.1) in
      let c = call_settles p.0 (instances z p.1) fit a in
      let v = chosen e z (premises_meet z e.premises h) r.0 r.1 r.2 c.2 i ex.orthogonal.apart ex.orthogonal.closed q in
      record {
        value = r.0;
        cost = own.0 + c.1;
        other_cost = r.1;
        left = subst (λ t. Evaluates theory t r.0 (own.0 + c.1)) (sym q)
            (called (instances z p.1) own.0 c.1 own.1
            (subst (λ u. Tries theory theory.equations p.0 (instances z p.1) u c.1) v c.2) refl);
        right = r.2;
        still = r.3;
      }

  module _ (e : ConditionalEquation) (i : IsOneOf e theory.equations) (s : ℕ → TermTree) (ground : IsGroundFor theory e s) where
    fit : EquationFits theory e
    fit = each_one (EquationFits theory) theory.equations e ex.fits.equations i

    tight : HasNoLooseVariables e
    tight = each_one HasNoLooseVariables theory.equations e ex.orthogonal.closed i

    sort_of : (x : ℕ) → Occurs x e.left → (a : ℕ) × (slice_get e.sorts x ≡ Some a) × HasSort theory no_variables (s x) a
    sort_of x o = let d = declared theory (slice_get e.sorts) e.left fit.sides.0 fit.sides.1 x o in (d.0, d.1, ground x d.0 (inl o) d.1)

    abbrev value_at : (x : ℕ) → Occurs x e.left → Settles theory (s x)
    value_at x o = let d = sort_of x o in settles (s x) (fits_sorted theory (s x) d.0 d.2)

    -- the value of what the substitution puts, for the equation's variables
    abbrev picked : (x : ℕ) → Tells (Occurs x e.left) → TermTree
    picked x (inl o) = (value_at x o).0
    picked x (inr h) = variable x

    abbrev values : ℕ → TermTree
    values x = picked x (occurs x e.left)

    at_picked : (x : ℕ) (d : Tells (Occurs x e.left)) → Occurs x e.left → SameValue theory (s x) (picked x d)
    at_picked x (inl o) k = let v = value_at x o in let w = own_value theory v.0 v.3 in
        record { value = v.0; cost = v.1; other_cost = w.0; left = v.2; right = w.1; still = v.3 }
    at_picked x (inr h) k = absurd (h k)

    still_picked : (x : ℕ) (d : Tells (Occurs x e.left)) → Occurs x e.left → IsStill theory (picked x d)
    still_picked x (inl o) k = (value_at x o).3
    still_picked x (inr h) k = absurd (h k)

    sort_picked : (x a : ℕ) (d : Tells (Occurs x e.left)) → Occurs x e.left → slice_get e.sorts x ≡ Some a →
        HasSort theory no_variables (picked x d) a
    sort_picked x a (inl o) k q = keeps_sort theory ex.orthogonal.closed (sorted_of theory ex) (value_at x o).2 a (ground x a (inl o) q)
    sort_picked x a (inr h) k q = absurd (h k)

    pub by_values : Each (PremiseIsSame theory s) e.premises → SameValue theory (instance s e.left) (instance s e.right)
    by_values h =
        let vars = slice_get e.sorts in
        let sz = λ (x : ℕ) (o : Occurs x e.left). at_picked x (occurs x e.left) o in
        let l = through vars s values e.left fit.sides.0 fit.sides.1 sz (λ x a o q. ground x a (inl o) q) in
        let r = through vars s values e.right fit.sides.0 fit.sides.2 (λ x o. sz x (tight.right x o))
        (λ x a o q. ground x a (inr (inl o)) q) in
        let p = premises_through vars s values e.premises fit.premises (λ x o. sz x (tight.premises x o))
        (λ x a o q. ground x a (inr (inr o)) q) h in
        let fits = instance_sort theory vars values e.left fit.sides.0 fit.sides.1 (λ x a o q. sort_picked x a (occurs x e.left) o q) in
        let m = one_equation e i values (λ x o. still_picked x (occurs x e.left) o) fit.sides.0 fits p
        (r.value, r.other_cost, r.right, r.still) in
        chained l (chained m (turned r))

    by_use : {a b : TermTree} → Each (PremiseIsSame theory s) e.premises → a ≡ instance s e.left → b ≡ instance s e.right →
        SameValue theory a b
    by_use {a} {b} h p q =
        subst (λ x. SameValue theory x b) (sym p) (subst (λ y. SameValue theory (instance s e.left) y) (sym q) (by_values h))

  mutual
    -- two terms that are provably equal have one value
    pub one_class : {a b : TermTree} → Equal theory a b → SameValue theory a b
    one_class (by_reflexivity {t} g) = reflexive t g.0 g.1
    one_class (by_symmetry h) = turned (one_class h)
    one_class (by_transitivity c h k) = chained (one_class h) (one_class k)
    one_class (by_congruence {f = f} g h) = under f (on_map (slice_get theory.operations f) g.1 (λ d p. p.1)) (one_classes h)
    one_class (by_equation e s i g h p q) = by_use e i s g (premises_one h) p q

    one_classes : {ts us : TermTrees} → AreEqual theory ts us → SameValues theory ts us
    one_classes none_equal = alone
    one_classes (more_equal h k) = beside (one_class h) (one_classes k)

    premises_one : {s : ℕ → TermTree} {ps : List Premise} → PremisesHold theory s ps → Each (PremiseIsSame theory s) ps
    premises_one none_asked = tt
    premises_one (more_asked h k) = (one_class h, premises_one k)
