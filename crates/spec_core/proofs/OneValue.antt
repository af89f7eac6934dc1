-- A term has at most one value, at one cost.
use Rattle.std.proofs.Common.{ℕ, ◌≡◌, List, refl, sym, ap, subst, ◌∙◌, arith, inl, inr}
use Rattle.spec_core.specs.Lists.{Each}
use Rattle.spec_core.specs.Terms.{TermTree, TermTrees, variable, apply, no_terms, and_term, instance, instances, Occurs, OccursInAny}
use Rattle.spec_core.specs.Theories.{Premise, ConditionalEquation, Theory, OccursInPremises}
use Rattle.spec_core.specs.Orthogonality.{HasNoLooseVariables}
use Rattle.spec_core.specs.Evaluation.{Evaluates, EvaluatesAll, Tries, Asks, called, none, more, final, unlike, like, used, holds, fails}

-- two substitutions that make one term of l agree on l's variables
module _ (s z : ℕ → TermTree) where
  mutual
    pub agree : (l : TermTree) → instance s l ≡ instance z l → (x : ℕ) → Occurs x l → s x ≡ z x
    agree (variable y) e x o = subst (λ y. s y ≡ z y) (sym o) e
    agree (apply f ts) e x o = agree_any ts (cc) x o

    pub agree_any : (ls : TermTrees) → instances s ls ≡ instances z ls → (x : ℕ) → OccursInAny x ls → s x ≡ z x
    agree_any no_terms e x o = absurd o
    agree_any (and_term t ts) e x (inl o) = agree t (cc) x o
    agree_any (and_term t ts) e x (inr o) = agree_any ts (cc) x o

  mutual
    pub same_instance : (t : TermTree) → ((x : ℕ) → Occurs x t → s x ≡ z x) → instance s t ≡ instance z t
    same_instance (variable y) h = h y refl
    same_instance (apply f ts) h = ap (apply f) (same_instances ts h)

    pub same_instances : (ts : TermTrees) → ((x : ℕ) → OccursInAny x ts → s x ≡ z x) → instances s ts ≡ instances z ts
    same_instances no_terms h = refl
    same_instances (and_term t ts) h =
        let a = same_instance t (λ x o. h x (inl o)) in
        let b = same_instances ts (λ x o. h x (inr o)) in
        cc

module _ (theory : Theory) (tight : Each HasNoLooseVariables theory.equations) where
  mutual
    pub one_value : {t v : TermTree} {n : ℕ} → Evaluates theory t v n → {w : TermTree} {m : ℕ} → Evaluates theory t w m → (v ≡ w) × (n ≡ m)
    one_value (called {f} vs n m a b e) (called us i j c d g) =
        let x = one_values a c in
        let y = one_try b tight us x.0 d in
        (y.0, omega (arith, x.1, y.1))

    pub one_values : {ts vs : TermTrees} {n : ℕ} →
        EvaluatesAll theory ts vs n → {ws : TermTrees} {m : ℕ} → EvaluatesAll theory ts ws m → (vs ≡ ws) × (n ≡ m)
    one_values (none e) (none f) = (refl, omega arith)
    one_values (more n m a b e) (more i j c d f) =
        let x = one_value a c in
        let y = one_values b d in
        (cc, omega (arith, x.1, y.1))

    pub one_try : {es : List ConditionalEquation} {f : ℕ} {vs : TermTrees} {v : TermTree} {n : ℕ} →
        Tries theory es f vs v n → Each HasNoLooseVariables es → (us : TermTrees) → vs ≡ us → {w : TermTree} {m : ℕ} →
        Tries theory es f us w m → (v ≡ w) × (n ≡ m)
    one_try (final e k) t us q (final g l) = (cc, omega arith)
    one_try (unlike h a) t us q (unlike i b) = one_try a t.1 us q b
    one_try (unlike h a) t us q (like s i b) = absurd (h s (cc))
    one_try (like s h a) t us q (unlike i b) = absurd (i s (cc))
    one_try (like {e = e} s h a) t us q (like z i b) =
        let g : instance s e.left ≡ instance z e.left = cc in
        one_ask a t.1 us q z
        (λ x o. agree s z e.left g x (t.0.right x o))
        (λ x o. agree s z e.left g x (t.0.premises x o)) b

    one_ask :
        {ps : List Premise} {r : TermTree} {s : ℕ → TermTree} {es : List ConditionalEquation} {f : ℕ} {vs : TermTrees} {v : TermTree}
        {n : ℕ} →
        Asks theory ps r s es f vs v n → Each HasNoLooseVariables es → (us : TermTrees) → vs ≡ us → (z : ℕ → TermTree) →
        ((x : ℕ) → Occurs x r → s x ≡ z x) → ((x : ℕ) → OccursInPremises x ps → s x ≡ z x) → {w : TermTree} {m : ℕ} →
        Asks theory ps r z es f us w m → (v ≡ w) × (n ≡ m)
    one_ask {r = r} {s = s} (used n a e) t us q z hr hp {w = w} (used m b g) =
        let x = one_value a (subst (λ i. Evaluates theory i w m) (sym (same_instance s z r hr)) b) in
        (x.0, omega (arith, x.1))
    one_ask {s = s} (holds {a = l} {b = r} u n m k a b c e) t us q z hr hp (holds u' n' m' k' a' b' c' e') =
        let x = one_value a (subst (λ i. Evaluates theory i u' n') (sym (same_instance s z l (λ y o. hp y (inl o)))) a') in
        let y = one_value b (subst (λ i. Evaluates theory i u' m') (sym (same_instance s z r (λ y o. hp y (inr (inl o))))) b') in
        let d = one_ask c t us q z hr (λ y o. hp y (inr (inr o))) c' in
        (d.0, omega (arith, x.1, y.1, d.1))
    one_ask {s = s} (holds {a = l} {b = r} u n m k a b c e) t us q z hr hp (fails u' w' n' m' k' a' b' ne c' e') =
        let x = one_value a (subst (λ i. Evaluates theory i u' n') (sym (same_instance s z l (λ y o. hp y (inl o)))) a') in
        let y = one_value b (subst (λ i. Evaluates theory i w' m') (sym (same_instance s z r (λ y o. hp y (inr (inl o))))) b') in
        absurd (ne (sym x.0 ∙ y.0))
    one_ask {s = s} (fails {a = l} {b = r} u w n m k a b ne c e) t us q z hr hp (holds u' n' m' k' a' b' c' e') =
        let x = one_value a (subst (λ i. Evaluates theory i u' n') (sym (same_instance s z l (λ y o. hp y (inl o)))) a') in
        let y = one_value b (subst (λ i. Evaluates theory i u' m') (sym (same_instance s z r (λ y o. hp y (inr (inl o))))) b') in
        absurd (ne (x.0 ∙ sym y.0))
    one_ask {s = s} (fails {a = l} {b = r} u w n m k a b ne c e) t us q z hr hp (fails u' w' n' m' k' a' b' ne' c' e') =
        let x = one_value a (subst (λ i. Evaluates theory i u' n') (sym (same_instance s z l (λ y o. hp y (inl o)))) a') in
        let y = one_value b (subst (λ i. Evaluates theory i w' m') (sym (same_instance s z r (λ y o. hp y (inr (inl o))))) b') in
        let d = one_try c t us q c' in
        (d.0, omega (arith, x.1, y.1, d.1))
