-- A premise that gives a term a constant.
use Rattle.std.proofs.Common.{ℕ, ◌≡◌, List, [], ◌∷◌, refl, sym, ap, subst, ◌∙◌, arith, inl, inr, ◌⊎◌, codes}
use Rattle.std.specs.List.{slice_get}
use Rattle.spec_core.specs.Lists.{Each, OneOf}
use Rattle.spec_core.specs.Terms.{TermTree, TermTrees, variable, apply, no_terms, and_term, constant, instance}
use Rattle.spec_core.specs.Theories.{Premise, premise, ConditionalEquation, Theory, Heads}
use Rattle.spec_core.specs.Sorts.{OnSome}
use Rattle.spec_core.specs.Constructors.{IsConstructor, IsConstructed, ArePatterns}
use Rattle.spec_core.specs.Orthogonality.{HasPatterns, IsNegation, IsPlain, Gives}
use Rattle.spec_core.specs.Evaluation.{Evaluates, EvaluatesAll, Tries, Asks, called, none, more, final, unlike, like, used, holds, fails}
use Rattle.spec_core.specs.Executable.{IsExecutable}
use Rattle.spec_core.proofs.OneValue.{one_value}
use Rattle.spec_core.proofs.Definitions.{heads_none}
use Rattle.spec_core.proofs.Instances.{on_both}
use Rattle.data_laws.proofs.Exists.{Headed}
use Rattle.data_laws.proofs.Evaluated.{constant_value}
use Rattle.data_laws.proofs.Conditions.{headed_of, bare_of}

-- both terms evaluate to this value
pub record Meet (theory : Theory) (a b : TermTree) : Type 0 where
  pub value : TermTree
  pub cost : ℕ
  pub other_cost : ℕ
  pub left : Evaluates theory a value cost
  pub right : Evaluates theory b value other_cost

abbrev pub PremiseMeets : Theory → (ℕ → TermTree) → Premise → Type 0
PremiseMeets theory s (premise a b) = Meet theory (instance s a) (instance s b)

-- a term evaluates to a ground constructor term
abbrev pub Makes : Theory → TermTree → Type 0
Makes theory t = (v : TermTree) × (k : ℕ) × Evaluates theory t v k × IsConstructed theory v

-- so do both sides of a premise
abbrev pub PremiseMakes : Theory → (ℕ → TermTree) → Premise → Type 0
PremiseMakes theory s (premise a b) = Makes theory (instance s a) × Makes theory (instance s b)

abbrev first_of : List ℕ → ℕ
first_of [] = 0
first_of (b ∷ bs) = b

abbrev one : TermTree → TermTrees
one t = and_term t no_terms

module _ (theory : Theory) (ex : IsExecutable theory) where
  pub own_constant : (c : ℕ) → IsConstructor theory c → Evaluates theory (constant c) (constant c) 0
  own_constant c h = constant_value theory (headed_of theory ex) (bare_of theory ex) c h

  pub is_constant : {v : TermTree} {n : ℕ} (c : ℕ) → IsConstructor theory c → Evaluates theory (constant c) v n → v ≡ constant c
  is_constant c h a = (one_value theory ex.orthogonal.closed a (own_constant c h)).0

  pattern_argument : (g c : ℕ) (r : TermTree) (es : List ConditionalEquation) → Each (HasPatterns theory) es →
      OneOf (λ e. IsPlain e (apply g (one (constant c))) r) es → IsConstructor theory c
  pattern_argument g c r [] h i = absurd i
  pattern_argument g c r (e ∷ es) h (inr i) = pattern_argument g c r es h.1 i
  pattern_argument g c r (e ∷ es) h (inl p) =
      let q : apply h.0.0 h.0.1 ≡ apply g (one (constant c)) = sym h.0.2 ∙ p.1 in
      let same : h.0.1 ≡ one (constant c) = cc in
      (subst (ArePatterns theory) same h.0.3).0.0

  heads_one : (g : ℕ) (ts : TermTrees) (r : TermTree) (es : List ConditionalEquation) → OneOf (λ e. IsPlain e (apply g ts) r) es →
      Each (λ e. Heads g e → ⊥) es → ⊥
  heads_one g ts r [] i h = i
  heads_one g ts r (e ∷ es) (inl p) h = h.0 (ts, p.1)
  heads_one g ts r (e ∷ es) (inr i) h = heads_one g ts r es i h.1

  used_up : {ps : List Premise} {r : TermTree} {s : ℕ → TermTree} {es : List ConditionalEquation} {f : ℕ} {vs : TermTrees} {v : TermTree}
      {n : ℕ} (c : ℕ) → IsConstructor theory c → Asks theory ps r s es f vs v n → ps ≡ [] → r ≡ constant c → v ≡ constant c
  used_up {s = s} {v = v} c h (used n a e) p q = is_constant c h (subst (λ u. Evaluates theory (instance s u) v n) q a)
  used_up c h (holds w n m l a b d e) p q = cc
  used_up c h (fails w u n m l a b ne d e) p q = cc

  nothing : {vs : TermTrees} {n : ℕ} → EvaluatesAll theory no_terms vs n → vs ≡ no_terms
  nothing (none e) = refl

  single : {x : TermTree} {vs : TermTrees} {n : ℕ} → EvaluatesAll theory (one x) vs n →
      (w : TermTree) × (m : ℕ) × Evaluates theory x w m × (vs ≡ one w)
  single (more {v = w} n m a b e) = (w, n, a, ap (and_term w) (nothing b))

  module _ (negation yes no : ℕ) (h : IsNegation theory negation yes no) where
    yes_constructor : IsConstructor theory yes
    yes_constructor = pattern_argument negation yes (constant no) theory.equations ex.orthogonal.patterns h.of_true

    no_constructor : IsConstructor theory no
    no_constructor = pattern_argument negation no (constant yes) theory.equations ex.orthogonal.patterns h.of_false

    defined : IsConstructor theory negation → ⊥
    defined c = heads_one negation (one (constant yes)) (constant no) theory.equations h.of_true (heads_none theory ex negation c)

    pub differ : yes ≡ no → ⊥
    differ e =
        let k = subst (λ i. OnSome (slice_get theory.operations i)
        (λ d. (d.name ≡ codes "true") × (d.args ≡ []) × (d.result ≡ h.bool) × (d.line ≡ 0))) e h.true_constant.declared in
        on_both (slice_get theory.operations no) k h.false_constant.declared
        (λ d p q. let w : codes "true" ≡ codes "false" = sym p.0 ∙ q.0 in let n : 116 ≡ 102 = ap first_of w in
        absurd (omega (arith, n)))

    pub constants_differ : constant yes ≡ constant no → ⊥
    constants_differ e = differ (let q : apply yes no_terms ≡ apply no no_terms = e in cc)

    -- the negation of a constant is the other constant; that of another value stays
    abbrev pub Negated : TermTree → TermTree → Type 0
    Negated w v = (w ≡ constant yes) × (v ≡ constant no) ⊎ (w ≡ constant no) × (v ≡ constant yes) ⊎
        (v ≡ apply negation (one w)) × (w ≡ constant no → ⊥)

    -- none of the equations matches the negation of the value
    abbrev IsUnlike : List ConditionalEquation → TermTree → Type 0
    IsUnlike es w = Each (λ e. (s : ℕ → TermTree) → instance s e.left ≡ apply negation (one w) → ⊥) es

    negates : (es : List ConditionalEquation) → Each Headed es →
        Each (λ e. Heads negation e → IsPlain e (apply negation (one (constant yes))) (constant no) ⊎
        IsPlain e (apply negation (one (constant no))) (constant yes)) es → (w v : TermTree) (n : ℕ) →
        Tries theory es negation (one w) v n →
        (w ≡ constant yes) × (v ≡ constant no) ⊎ (w ≡ constant no) × (v ≡ constant yes) ⊎ (v ≡ apply negation (one w)) × IsUnlike es w
    negates [] t k w v n (final e z) = inr (inr (e, tt))
    negates (e ∷ es) t k w v n (unlike u a) = past (negates es t.1 k.1 w v n a)
      where
        past : (w ≡ constant yes) × (v ≡ constant no) ⊎ (w ≡ constant no) × (v ≡ constant yes) ⊎
            (v ≡ apply negation (one w)) × IsUnlike es w →
            (w ≡ constant yes) × (v ≡ constant no) ⊎ (w ≡ constant no) × (v ≡ constant yes) ⊎
            (v ≡ apply negation (one w)) × IsUnlike (e ∷ es) w
        past (inl x) = inl x
        past (inr (inl x)) = inr (inl x)
        past (inr (inr x)) = inr (inr (x.0, (u, x.1)))
    negates (e ∷ es) t k w v n (like s m a) = by_kind (k.0 (t.0 s negation (one w) m))
      where
        argument : (c : ℕ) → e.left ≡ apply negation (one (constant c)) → w ≡ constant c
        argument c q = let j : apply negation (one (constant c)) ≡ apply negation (one w) = sym (ap (instance s) q) ∙ m in cc

        by_kind : IsPlain e (apply negation (one (constant yes))) (constant no) ⊎
            IsPlain e (apply negation (one (constant no))) (constant yes) →
            (w ≡ constant yes) × (v ≡ constant no) ⊎ (w ≡ constant no) × (v ≡ constant yes) ⊎
            (v ≡ apply negation (one w)) × IsUnlike (e ∷ es) w
        by_kind (inl p) = inl (argument yes p.1, used_up no no_constructor a p.0 p.2)
        by_kind (inr p) = inr (inl (argument no p.1, used_up yes yes_constructor a p.0 p.2))

    -- where no equation matches the negation of a value, that isn't the constant of which there is an equation
    unlike_no : (w : TermTree) (es : List ConditionalEquation) →
        OneOf (λ e. IsPlain e (apply negation (one (constant no))) (constant yes)) es → IsUnlike es w → w ≡ constant no → ⊥
    unlike_no w [] i u q = i
    unlike_no w (e ∷ es) (inl p) u q =
        u.0 variable (ap (instance variable) p.1 ∙ ap (λ t. apply negation (one t)) (sym q))
    unlike_no w (e ∷ es) (inr i) u q = unlike_no w es i u.1 q

    pub negation_value : {x v : TermTree} {k : ℕ} → Evaluates theory (apply negation (one x)) v k →
        (w : TermTree) × (n : ℕ) × Evaluates theory x w n × Negated w v
    negation_value {v = v} (called vs n m all tries e) =
        let a = single all in (
          a.0,
          a.1,
          a.2,
          known
              (negates theory.equations (headed_of theory ex) h.no_other a.0 v m
              (subst (λ us. Tries theory theory.equations negation us v m) a.3 tries)),
        )
      where
        known : {w : TermTree} → (w ≡ constant yes) × (v ≡ constant no) ⊎ (w ≡ constant no) × (v ≡ constant yes) ⊎
            (v ≡ apply negation (one w)) × IsUnlike theory.equations w → Negated w v
        known (inl x) = inl x
        known (inr (inl x)) = inr (inl x)
        known {w} (inr (inr x)) = inr (inr (x.0, unlike_no w theory.equations h.of_false x.1))

  module _ (z : ℕ → TermTree) where
    -- where a term has the constant that a premise gives it, the premise holds
    pub meets : (p : Premise) (t : TermTree) (c k : ℕ) → Gives theory p t c → PremiseMakes theory z p →
        Evaluates theory (instance z t) (constant c) k → PremiseMeets theory z p
    meets p t c k (h, inl q) known e = subst (PremiseMeets theory z) (sym q) m
      where
        m : Meet theory (instance z t) (constant c)
        m = record { value = constant c; cost = k; other_cost = 0; left = e; right = own_constant c h }
    meets p t c k (h, inr (inl q)) known e = subst (PremiseMeets theory z) (sym q) m
      where
        m : Meet theory (constant c) (instance z t)
        m = record { value = constant c; cost = 0; other_cost = k; left = own_constant c h; right = e }
    meets p t c k (h, inr (inr d)) known e = subst (PremiseMeets theory z) (sym d.form) (by_value v.3)
      where
        s : Makes theory (apply d.negation (one (instance z t)))
        s = (subst (PremiseMakes theory z) d.form known).0

        v : (w : TermTree) × (n : ℕ) × Evaluates theory (instance z t) w n × Negated d.negation d.yes c d.library w s.0
        v = negation_value d.negation d.yes c d.library s.2

        by_value : Negated d.negation d.yes c d.library v.0 s.0 → Meet theory (apply d.negation (one (instance z t))) (constant d.yes)
        by_value (inl n) = absurd (constants_differ d.negation d.yes c d.library
            (sym n.0 ∙ (one_value theory ex.orthogonal.closed v.2 e).0))
        by_value (inr (inr n)) = absurd (n.1 (one_value theory ex.orthogonal.closed v.2 e).0)
        by_value (inr (inl n)) = record {
          value = constant d.yes;
          cost = s.1;
          other_cost = 0;
          left =
              subst (λ u. Evaluates theory (apply d.negation (one (instance z t))) u s.1) n.1 s.2;
          right =
              own_constant d.yes (yes_constructor d.negation d.yes c d.library);
        }

    -- the term to which a premise gives a constant evaluates to a ground constructor term, where the premise's sides do
    pub side : (p : Premise) (t : TermTree) (c : ℕ) → Gives theory p t c → PremiseMakes theory z p → Makes theory (instance z t)
    side p t c (h, inl q) known = (subst (PremiseMakes theory z) q known).0
    side p t c (h, inr (inl q)) known = (subst (PremiseMakes theory z) q known).1
    side p t c (h, inr (inr d)) known = (v.0, v.1, v.2, constructed v.3)
      where
        s : Makes theory (apply d.negation (one (instance z t)))
        s = (subst (PremiseMakes theory z) d.form known).0

        v : (w : TermTree) × (n : ℕ) × Evaluates theory (instance z t) w n × Negated d.negation d.yes c d.library w s.0
        v = negation_value d.negation d.yes c d.library s.2

        constructed : Negated d.negation d.yes c d.library v.0 s.0 → IsConstructed theory v.0
        constructed (inl n) = subst (IsConstructed theory) (sym n.0) (yes_constructor d.negation d.yes c d.library, tt)
        constructed (inr (inl n)) = subst (IsConstructed theory) (sym n.0) (h, tt)
        constructed (inr (inr n)) = absurd (defined d.negation d.yes c d.library (subst (IsConstructed theory) n.0 s.3).0)

    -- where a premise holds, the term has the constant that it gives
    pub given_value : (p : Premise) (t : TermTree) (c : ℕ) → Gives theory p t c → PremiseMeets theory z p →
        (k : ℕ) × Evaluates theory (instance z t) (constant c) k
    given_value p t c (h, inl q) m =
        let n : Meet theory (instance z t) (constant c) = subst (PremiseMeets theory z) q m in
        (n.cost, subst (λ v. Evaluates theory (instance z t) v n.cost) (is_constant c h n.right) n.left)
    given_value p t c (h, inr (inl q)) m =
        let n : Meet theory (constant c) (instance z t) = subst (PremiseMeets theory z) q m in
        (n.other_cost, subst (λ v. Evaluates theory (instance z t) v n.other_cost) (is_constant c h n.left) n.right)
    given_value p t c (h, inr (inr d)) m = by_value v.3
      where
        n : Meet theory (apply d.negation (one (instance z t))) (constant d.yes)
        n = subst (PremiseMeets theory z) d.form m

        v : (w : TermTree) × (k : ℕ) × Evaluates theory (instance z t) w k × Negated d.negation d.yes c d.library w n.value
        v = negation_value d.negation d.yes c d.library n.left

        by_value : Negated d.negation d.yes c d.library v.0 n.value → (k : ℕ) × Evaluates theory (instance z t) (constant c) k
        by_value (inl x) = absurd (constants_differ d.negation d.yes c d.library
            (sym (is_constant d.yes (yes_constructor d.negation d.yes c d.library) n.right) ∙ x.1))
        by_value (inr (inl x)) = (v.1, subst (λ u. Evaluates theory (instance z t) u v.1) x.0 v.2)
        by_value (inr (inr x)) =
            let q : apply d.negation (one v.0) ≡ apply d.yes no_terms =
            sym x.0 ∙ is_constant d.yes (yes_constructor d.negation d.yes c d.library) n.right in
            let never : ⊥ = cc in absurd never
