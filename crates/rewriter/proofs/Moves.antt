-- The machine's moves.
use Rattle.std.proofs.Common.{ℕ, ◌≡◌, ◌+◌, ◌<◌, List, [], ◌∷◌, refl, sym, subst, ◌∙◌, arith, drop, inl, inr, ◌⊎◌}
use Rattle.spec_core.specs.Lists.{Each}
use Rattle.spec_core.specs.Terms.{TermTree, TermTrees, apply, no_terms, width, instance, Occurs}
use Rattle.spec_core.specs.Theories.{Premise, premise, ConditionalEquation, Theory, OccursInPremises}
use Rattle.spec_core.specs.Orthogonality.{HasNoLooseVariables}
use Rattle.spec_core.specs.Evaluation.{Evaluates, Tries, Asks, final, unlike, like, used, holds, fails, EvaluationMeets, AsksMeet, TriesMeet}
use Rattle.spec_core.specs.Evaluation.{passed_over, asked, in_right, in_left_side, in_right_side, after_equal, after_unequal}
use Rattle.spec_core.proofs.OneValue.{one_value, agree, same_instance}
use Rattle.value_nodes.specs.Sizes.{IsTooLarge}
use Rattle.rewriter.specs.Machine.{Outcome, gives, meets, Evaluating, Trying, Asking, Deciding, Through, Task, decide, plan, top, OnCall}
use Rattle.rewriter.specs.Machine.{Comes, Keeps, Exceeds, ComesTo}
use Rattle.rewriter.proofs.Plans.{plan_back, plan_on, plan_met, plan_reaches, plan_meets}

pub same : {P : Outcome → Type 0} (a : ℕ) → Keeps P a P a
same a = record { back = λ v n p. (n, p, refl); on = λ v n p. (n, p, refl); met = λ w p. p; large = λ w b p. p }

pub keep_on : {P Q R : Outcome → Type 0} (a b c : ℕ) → Keeps P a Q b → Keeps Q b R c → Keeps P a R c
keep_on a b c h k = record {
  back = λ v n r. let x = k.back v n r in let y = h.back v x.0 x.1 in (y.0, y.1, omega (arith, x.2, y.2));
  on = λ v m p. let x = h.on v m p in let y = k.on v x.0 x.1 in (y.0, y.1, omega (arith, x.2, y.2));
  met = λ w r. h.met w (k.met w r);
  large = λ w b p. k.large w b (h.large w b p);
}

pub exceeds_before : {P Q : Outcome → Type 0} (a b budget : ℕ) → Keeps P a Q b → Exceeds Q b budget → Exceeds P a budget
exceeds_before a b budget h k v n p = let x = h.on v n p in let y = k v x.0 x.1 in omega (arith, x.2, y)

-- what comes first may be exchanged for what comes to the same
pub through : {P R : Outcome → Type 0} (Q : TermTree → Outcome → Type 0) (a b : ℕ) → Keeps P a R b → Keeps (Through P Q) a (Through R Q) b
through {P} {R} Q a b h = record {
  back = λ v n l. let x = h.back l.0 l.1 l.3 in (x.0 + l.2, (l.0, x.0, l.2, x.1, l.4, refl), omega (arith, x.2, l.5));
  on = λ v n l. let x = h.on l.0 l.1 l.3 in (x.0 + l.2, (l.0, x.0, l.2, x.1, l.4, refl), omega (arith, x.2, l.5));
  met = λ u l. after u l;
  large = λ u b l. before u b l;
}
  where
    after : (u : TermTree) → Through R Q (meets u) → Through P Q (meets u)
    after u (inl r) = inl (h.met u r)
    after u (inr (w, c, r, l)) = let x = h.back w c r in inr (w, x.0, x.1, l)

    before : (u : TermTree) → IsTooLarge u → Through P Q (meets u) → Through R Q (meets u)
    before u b (inl p) = inl (h.large u b p)
    before u b (inr (w, c, p, l)) = let x = h.on w c p in inr (w, x.0, x.1, l)

-- substitutions that agree ask alike
pub same_asks : {theory : Theory} {ps : List Premise} {r : TermTree} {es : List ConditionalEquation} {f : ℕ} {vs : TermTrees}
    {v : TermTree} {k : ℕ} (z s : ℕ → TermTree) → ((x : ℕ) → Occurs x r → z x ≡ s x) → ((x : ℕ) → OccursInPremises x ps → z x ≡ s x) →
    Asks theory ps r z es f vs v k → Asks theory ps r s es f vs v k
same_asks {theory = theory} {r = r} {v = v} z s hr hp (used n a e) =
    used n (subst (λ t. Evaluates theory t v n) (same_instance z s r hr) a) e
same_asks {theory = theory} z s hr hp (holds {a = a} {b = b} w n m l p q c e) =
    holds w n m l (subst (λ t. Evaluates theory t w n) (same_instance z s a (λ x o. hp x (inl o))) p)
    (subst (λ t. Evaluates theory t w m) (same_instance z s b (λ x o. hp x (inr (inl o)))) q)
    (same_asks z s hr (λ x o. hp x (inr (inr o))) c) e
same_asks {theory = theory} z s hr hp (fails {a = a} {b = b} w u n m l p q h c e) =
    fails w u n m l (subst (λ t. Evaluates theory t w n) (same_instance z s a (λ x o. hp x (inl o))) p)
    (subst (λ t. Evaluates theory t u m) (same_instance z s b (λ x o. hp x (inr (inl o)))) q) h c e

pub same_meets : {theory : Theory} {ps : List Premise} {r : TermTree} {es : List ConditionalEquation} {f : ℕ} {vs : TermTrees} {u : TermTree}
    (z s : ℕ → TermTree) → ((x : ℕ) → Occurs x r → z x ≡ s x) → ((x : ℕ) → OccursInPremises x ps → z x ≡ s x) →
    AsksMeet theory ps r z es f vs u → AsksMeet theory ps r s es f vs u
same_meets {theory = theory} {r = r} {u = u} z s hr hp (in_right a) =
    in_right (subst (λ t. EvaluationMeets theory t u) (same_instance z s r hr) a)
same_meets {theory = theory} {u = u} z s hr hp (in_left_side {a = a} p) =
    in_left_side (subst (λ t. EvaluationMeets theory t u) (same_instance z s a (λ x o. hp x (inl o))) p)
same_meets {theory = theory} {u = u} z s hr hp (in_right_side {a = a} {b = b} {v = w} {n = n} p q) =
    in_right_side (subst (λ t. Evaluates theory t w n) (same_instance z s a (λ x o. hp x (inl o))) p)
    (subst (λ t. EvaluationMeets theory t u) (same_instance z s b (λ x o. hp x (inr (inl o)))) q)
same_meets {theory = theory} z s hr hp (after_equal {a = a} {b = b} {v = w} {n = n} {m = m} p q c) =
    after_equal (subst (λ t. Evaluates theory t w n) (same_instance z s a (λ x o. hp x (inl o))) p)
    (subst (λ t. Evaluates theory t w m) (same_instance z s b (λ x o. hp x (inr (inl o)))) q)
    (same_meets z s hr (λ x o. hp x (inr (inr o))) c)
same_meets {theory = theory} z s hr hp (after_unequal {a = a} {b = b} {v = w} {u = y} {n = n} {m = m} p q d c) =
    after_unequal (subst (λ t. Evaluates theory t w n) (same_instance z s a (λ x o. hp x (inl o))) p)
    (subst (λ t. Evaluates theory t y m) (same_instance z s b (λ x o. hp x (inr (inl o)))) q) d c

abbrev pub RestOf : Theory → List Task → TermTrees → List TermTree → TermTree → Outcome → Type 0
RestOf theory todo pats vals w o = Comes theory todo (w ∷ drop (width pats) vals) o

module _ (theory : Theory) where
  -- an equation that doesn't match is passed over
  pub passed : (e : ConditionalEquation) (es : List ConditionalEquation) (f : ℕ) (vs : TermTrees) (a : ℕ) →
      ((s : ℕ → TermTree) → instance s e.left ≡ apply f vs → ⊥) → Keeps (Trying theory (e ∷ es) f vs) a (Trying theory es f vs) a
  passed e es f vs a no_match = record {
    back = λ v n t. (n, unlike no_match t, refl);
    on = λ v n t. (n, rest t, refl);
    met = λ w t. passed_over no_match t;
    large = λ w b t. others t;
  }
    where
      others : {w : TermTree} → TriesMeet theory (e ∷ es) f vs w → TriesMeet theory es f vs w
      others (passed_over h t) = t
      others (asked s q t) = absurd (no_match s q)

      rest : {v : TermTree} {k : ℕ} → Tries theory (e ∷ es) f vs v k → Tries theory es f vs v k
      rest (unlike h t) = t
      rest (like s q a) = absurd (no_match s q)

  -- an equation that matches is asked
  pub matched : (e : ConditionalEquation) (es : List ConditionalEquation) (f : ℕ) (vs : TermTrees) (s : ℕ → TermTree) (a : ℕ) →
      HasNoLooseVariables e → instance s e.left ≡ apply f vs →
      Keeps (Trying theory (e ∷ es) f vs) a (Asking theory e.premises e.right s es f vs) a
  matched e es f vs s a tight q = record {
    back = λ v n t. (n, like s q t, refl);
    on = λ v n t. (n, ask t, refl);
    met = λ w t. asked s q t;
    large = λ w b t. ask_met t;
  }
    where
      ask_met : {w : TermTree} → TriesMeet theory (e ∷ es) f vs w → AsksMeet theory e.premises e.right s es f vs w
      ask_met (passed_over h r) = absurd (h s q)
      ask_met (asked z p a) =
          let g : instance z e.left ≡ instance s e.left = p ∙ sym q in
          same_meets z s (λ x o. agree z s e.left g x (tight.right x o)) (λ x o. agree z s e.left g x (tight.premises x o)) a

      ask : {v : TermTree} {k : ℕ} → Tries theory (e ∷ es) f vs v k → Asks theory e.premises e.right s es f vs v k
      ask (unlike h r) = absurd (h s q)
      ask (like z p a) =
          let g : instance z e.left ≡ instance s e.left = p ∙ sym q in
          same_asks z s (λ x o. agree z s e.left g x (tight.right x o)) (λ x o. agree z s e.left g x (tight.premises x o)) a

  -- an equation whose premises hold is used
  pub used_once : (r : TermTree) (s : ℕ → TermTree) (es : List ConditionalEquation) (f : ℕ) (vs : TermTrees) (a : ℕ) →
      Keeps (Asking theory [] r s es f vs) a (Evaluating theory (instance s r)) (a + 1)
  used_once r s es f vs a = record {
    back = λ v n t. (n + 1, used n t refl, omega arith);
    on = λ v n t. once v n t;
    met = λ w t. in_right t;
    large = λ w b t. of_right t;
  }
    where
      of_right : {w : TermTree} → AsksMeet theory [] r s es f vs w → EvaluationMeets theory (instance s r) w
      of_right (in_right t) = t

      once : (v : TermTree) (n : ℕ) → Asks theory [] r s es f vs v n → (m : ℕ) × Evaluates theory (instance s r) v m × (a + n ≡ a + 1 + m)
      once v n (used m t q) = (m, t, omega (arith, q))

  -- where no use is left, whatever comes takes one too many
  pub spent : (r : TermTree) (s : ℕ → TermTree) (es : List ConditionalEquation) (f : ℕ) (vs : TermTrees) (Q : TermTree → Outcome → Type 0)
      (budget : ℕ) → Exceeds (Through (Asking theory [] r s es f vs) Q) budget budget
  spent r s es f vs Q budget v n l = go l.0 l.1 l.2 l.3 l.5
    where
      go : (w : TermTree) (c m : ℕ) → Asks theory [] r s es f vs w c → n ≡ c + m → budget < budget + n
      go w c m (used k t q) e = omega (arith, q, e)

  -- where no equation is left, the call stays; it isn't too large
  pub stayed : (f : ℕ) (vs : TermTrees) (Q : TermTree → Outcome → Type 0) (a : ℕ) → (IsTooLarge (apply f vs) → ⊥) →
      Keeps (Through (Trying theory [] f vs) Q) a (Q (apply f vs)) a
  stayed f vs Q a small = record {
    back = λ v n q. (n, (apply f vs, 0, n, final refl refl, q, omega arith), refl);
    on = λ v n l. go v n l.0 l.1 l.2 l.3 l.4 l.5;
    met = λ u q. inr (apply f vs, 0, final refl refl, inr q);
    large = λ u b l. rest u b l;
  }
    where
      none_meet : {u : TermTree} {es : List ConditionalEquation} → TriesMeet theory es f vs u → es ≡ [] → ⊥
      none_meet (passed_over h t) e = let n : ⊥ = cc in n
      none_meet (asked s q t) e = let n : ⊥ = cc in n

      rest : (u : TermTree) → IsTooLarge u → Through (Trying theory [] f vs) Q (meets u) → Q (apply f vs) (meets u)
      rest u b (inl t) = absurd (none_meet t refl)
      rest u b (inr (w, k, final e z, inl q)) = absurd (small (subst IsTooLarge (q ∙ e) b))
      rest u b (inr (w, k, final e z, inr q)) = subst (λ v. Q v (meets u)) e q

      go : (v : TermTree) (n : ℕ) (w : TermTree) (k m : ℕ) → Tries theory [] f vs w k → Q w (gives v m) → n ≡ k + m →
          (i : ℕ) × Q (apply f vs) (gives v i) × (a + n ≡ a + i)
      go v n w k m (final e z) q h = (m, subst (λ u. Q u (gives v m)) e q, omega (arith, z, h))

  -- and it is met
  pub stayed_met : (f : ℕ) (vs : TermTrees) (Q : TermTree → Outcome → Type 0) → Through (Trying theory [] f vs) Q (meets (apply f vs))
  stayed_met f vs Q = inr (apply f vs, 0, final refl refl, inl refl)

  -- a premise of an equation that matches by s
  module _ (tights : Each HasNoLooseVariables theory.equations) (e : ConditionalEquation) (a b : TermTree) (ps : List Premise)
      (s : ℕ → TermTree) (es : List ConditionalEquation) (f : ℕ) (vs : TermTrees) (fit : instance s e.left ≡ apply f vs)
      (tight : HasNoLooseVariables e)
      (inside : (x : ℕ) → OccursInPremises x (premise a b ∷ ps) → OccursInPremises x e.premises) where
    to_this : {w : TermTree} {k : ℕ} (z : ℕ → TermTree) → instance z e.left ≡ apply f vs → Asks theory ps e.right z es f vs w k →
        Asks theory ps e.right s es f vs w k
    to_this z q t =
        let g : instance z e.left ≡ instance s e.left = q ∙ sym fit in
        same_asks z s (λ x o. agree z s e.left g x (tight.right x o))
        (λ x o. agree z s e.left g x (tight.premises x (inside x (inr (inr o))))) t

    to_this_met : {u : TermTree} (z : ℕ → TermTree) → instance z e.left ≡ apply f vs → AsksMeet theory ps e.right z es f vs u →
        AsksMeet theory ps e.right s es f vs u
    to_this_met z q t =
        let g : instance z e.left ≡ instance s e.left = q ∙ sym fit in
        same_meets z s (λ x o. agree z s e.left g x (tight.right x o))
        (λ x o. agree z s e.left g x (tight.premises x (inside x (inr (inr o))))) t

    answered : (x y w : TermTree) (i j k : ℕ) → Evaluates theory (instance s a) x i → Evaluates theory (instance s b) y j →
        Deciding theory e ps es f vs x y (gives w k) → Asks theory (premise a b ∷ ps) e.right s es f vs w (i + j + k)
    answered x y w i j k p q (inl (alike, (z, g, t))) =
        holds x i j k p (subst (λ v. Evaluates theory (instance s b) v j) (sym alike) q) (to_this z g t) refl
    answered x y w i j k p q (inr (differ, t)) = fails x y i j k p q differ t refl

    answered_met : (x y u : TermTree) (i j : ℕ) → Evaluates theory (instance s a) x i → Evaluates theory (instance s b) y j →
        Deciding theory e ps es f vs x y (meets u) → AsksMeet theory (premise a b ∷ ps) e.right s es f vs u
    answered_met x y u i j p q (inl (alike, (z, g, t))) =
        after_equal p (subst (λ v. Evaluates theory (instance s b) v j) (sym alike) q) (to_this_met z g t)
    answered_met x y u i j p q (inr (differ, t)) = after_unequal p q differ t

    -- once both sides have come to their values, the premise is to be decided
    pub sided : (x y : TermTree) (i j c : ℕ) → ComesTo (Evaluating theory (instance s a)) x i →
        ComesTo (Evaluating theory (instance s b)) y j →
        Keeps (Asking theory (premise a b ∷ ps) e.right s es f vs) c (Deciding theory e ps es f vs x y) (c + i + j)
    sided x y i j c p q = record {
      back = λ w k d. (i + j + k, answered x y w i j k p.value q.value d, omega arith);
      on = λ w n t. on w n t;
      met = λ u d. answered_met x y u i j p.value q.value d;
      large = λ u big t. large u big t;
    }
      where
        on : (w : TermTree) (n : ℕ) → Asks theory (premise a b ∷ ps) e.right s es f vs w n →
            (k : ℕ) × Deciding theory e ps es f vs x y (gives w k) × (c + n ≡ c + i + j + k)
        on w n (holds v i' j' l p' q' t r) =
            let g = one_value theory tights p' p.value in
            let h = one_value theory tights q' q.value in
            (l, inl (sym g.0 ∙ h.0, (s, fit, t)), omega (arith, g.1, h.1, r))
        on w n (fails v u i' j' l p' q' d t r) =
            let g = one_value theory tights p' p.value in
            let h = one_value theory tights q' q.value in
            (l, inr ((λ same. d (g.0 ∙ same ∙ sym h.0)), t), omega (arith, g.1, h.1, r))

        large : (u : TermTree) → IsTooLarge u → AsksMeet theory (premise a b ∷ ps) e.right s es f vs u →
            Deciding theory e ps es f vs x y (meets u)
        large u big (in_left_side m) = absurd (p.small u m big)
        large u big (in_right_side p' m) = absurd (q.small u m big)
        large u big (after_equal p' q' t) =
            let g = one_value theory tights p' p.value in
            let h = one_value theory tights q' q.value in
            inl (sym g.0 ∙ h.0, (s, fit, t))
        large u big (after_unequal p' q' d t) =
            let g = one_value theory tights p' p.value in
            let h = one_value theory tights q' q.value in
            inr ((λ same. d (g.0 ∙ same ∙ sym h.0)), t)

    -- a premise is asked: its sides are planned, the left one first, over the arguments
    pub asks : (pats : TermTrees) (todo : List Task) (vals : List TermTree) (start c : ℕ) →
        e.left ≡ apply f pats → vs ≡ top (width pats) vals no_terms →
        Keeps (Through (Asking theory (premise a b ∷ ps) e.right s es f vs) (λ w. Comes theory todo (w ∷ drop (width pats) vals))) c
        (Comes theory (plan s a (plan s b (decide e ps es start ∷ todo))) vals) c
    asks pats todo vals start c left over = record {
      back = λ v n l. back v n l;
      on = λ v n l. on v n l.0 l.1 l.2 l.3 l.4 l.5;
      met = λ u l. met u l;
      large = λ u big l. large u big l;
    }
      where
        opened : (x y : TermTree) (o : Outcome) → Comes theory (decide e ps es start ∷ todo) (y ∷ x ∷ vals) o →
            Through (Deciding theory e ps es f vs x y) (RestOf theory todo pats vals) o
        opened x y o l = subst (λ us. Through (Deciding theory e ps es f us x y) (RestOf theory todo pats vals) o) (sym over)
            (subst (λ t. OnCall t (λ f pats. Through (Deciding theory e ps es f (top (width pats) vals no_terms) x y)
            (λ w. Comes theory todo (w ∷ drop (width pats) vals)) o)) left l)

        closed : (x y : TermTree) (o : Outcome) → Through (Deciding theory e ps es f vs x y) (RestOf theory todo pats vals) o →
            Comes theory (decide e ps es start ∷ todo) (y ∷ x ∷ vals) o
        closed x y o l = subst (λ t. OnCall t
            (λ f pats. Through (Deciding theory e ps es f (top (width pats) vals no_terms) x y)
            (λ w. Comes theory todo (w ∷ drop (width pats) vals)) o)) (sym left)
            (subst (λ us. Through (Deciding theory e ps es f us x y) (RestOf theory todo pats vals) o) over l)

        back : (v : TermTree) (n : ℕ) → Comes theory (plan s a (plan s b (decide e ps es start ∷ todo))) vals (gives v n) →
            (m : ℕ) × Through (Asking theory (premise a b ∷ ps) e.right s es f vs) (RestOf theory todo pats vals) (gives v m) ×
            (c + m ≡ c + n)
        back v n l =
            let x = plan_on theory s a (plan s b (decide e ps es start ∷ todo)) vals v n l in
            let y = plan_on theory s b (decide e ps es start ∷ todo) (x.0 ∷ vals) v x.2 x.4 in
            let d = opened x.0 y.0 (gives v y.2) y.4 in
            (n, (d.0, x.1 + y.1 + d.1, d.2, answered x.0 y.0 d.0 x.1 y.1 d.1 x.3 y.3 d.3, d.4, omega (arith, x.5, y.5, d.5)), refl)

        planned_sides : (v x y : TermTree) (n i j k w_more : ℕ) → Evaluates theory (instance s a) x i →
            Evaluates theory (instance s b) y j → Comes theory (decide e ps es start ∷ todo) (y ∷ x ∷ vals) (gives v (k + w_more)) →
            n ≡ i + j + k + w_more → Comes theory (plan s a (plan s b (decide e ps es start ∷ todo))) vals (gives v n)
        planned_sides v x y n i j k m p q l total =
            plan_back theory s a (plan s b (decide e ps es start ∷ todo)) vals x v i (j + (k + m)) n p
            (plan_back theory s b (decide e ps es start ∷ todo) (x ∷ vals) y v j (k + m) (j + (k + m)) q l refl) (omega (arith, total))

        on : (v : TermTree) (n : ℕ) (w : TermTree) (k m : ℕ) → Asks theory (premise a b ∷ ps) e.right s es f vs w k →
            RestOf theory todo pats vals w (gives v m) → n ≡ k + m →
            (i : ℕ) × Comes theory (plan s a (plan s b (decide e ps es start ∷ todo))) vals (gives v i) × (c + n ≡ c + i)
        on v n w k m (holds x i j l p q t r) rest h = (
          n,
          planned_sides v x x n i j l m p q (closed x x (gives v (l + m)) (w, l, m, inl (refl, (s, fit, t)), rest, refl))
              (omega (arith, r, h)),
          refl,
        )
        on v n w k m (fails x y i j l p q d t r) rest h = (
          n,
          planned_sides v x y n i j l m p q (closed x y (gives v (l + m)) (w, l, m, inr (d, t), rest, refl)) (omega (arith, r, h)),
          refl,
        )

        sides_meet : (u x y : TermTree) (i j : ℕ) → Evaluates theory (instance s a) x i → Evaluates theory (instance s b) y j →
            Through (Deciding theory e ps es f vs x y) (RestOf theory todo pats vals) (meets u) →
            Comes theory (plan s a (plan s b (decide e ps es start ∷ todo))) vals (meets u)
        sides_meet u x y i j p q l =
            plan_reaches theory s a (plan s b (decide e ps es start ∷ todo)) vals x u i p
            (plan_reaches theory s b (decide e ps es start ∷ todo) (x ∷ vals) y u j q (closed x y (meets u) l))

        asked_large : (u : TermTree) → IsTooLarge u → AsksMeet theory (premise a b ∷ ps) e.right s es f vs u →
            Comes theory (plan s a (plan s b (decide e ps es start ∷ todo))) vals (meets u)
        asked_large u big (in_left_side m) = plan_meets theory s a (plan s b (decide e ps es start ∷ todo)) vals u m
        asked_large u big (in_right_side {v = x} {n = i} p m) =
            plan_reaches theory s a (plan s b (decide e ps es start ∷ todo)) vals x u i p
            (plan_meets theory s b (decide e ps es start ∷ todo) (x ∷ vals) u m)
        asked_large u big (after_equal {v = x} {n = i} {m = j} p q t) = sides_meet u x x i j p q (inl (inl (refl, (s, fit, t))))
        asked_large u big (after_unequal {v = x} {u = y} {n = i} {m = j} p q d t) = sides_meet u x y i j p q (inl (inr (d, t)))

        valued_large : (u w : TermTree) (k : ℕ) → Asks theory (premise a b ∷ ps) e.right s es f vs w k →
            (u ≡ w) ⊎ RestOf theory todo pats vals w (meets u) →
            Comes theory (plan s a (plan s b (decide e ps es start ∷ todo))) vals (meets u)
        valued_large u w k (holds x i j l p q t r) rest = sides_meet u x x i j p q (inr (w, l, inl (refl, (s, fit, t)), rest))
        valued_large u w k (fails x y i j l p q d t r) rest = sides_meet u x y i j p q (inr (w, l, inr (d, t), rest))

        large : (u : TermTree) → IsTooLarge u → Through (Asking theory (premise a b ∷ ps) e.right s es f vs)
            (RestOf theory todo pats vals) (meets u) →
            Comes theory (plan s a (plan s b (decide e ps es start ∷ todo))) vals (meets u)
        large u big (inl t) = asked_large u big t
        large u big (inr (w, k, t, rest)) = valued_large u w k t rest

        met : (u : TermTree) → Comes theory (plan s a (plan s b (decide e ps es start ∷ todo))) vals (meets u) →
            Through (Asking theory (premise a b ∷ ps) e.right s es f vs) (RestOf theory todo pats vals) (meets u)
        met u l = in_left (plan_met theory s a (plan s b (decide e ps es start ∷ todo)) vals u l)
          where
            decided : (x y : TermTree) (i j : ℕ) → Evaluates theory (instance s a) x i → Evaluates theory (instance s b) y j →
                Through (Deciding theory e ps es f vs x y) (RestOf theory todo pats vals) (meets u) →
                Through (Asking theory (premise a b ∷ ps) e.right s es f vs) (RestOf theory todo pats vals) (meets u)
            decided x y i j p q (inl d) = inl (answered_met x y u i j p q d)
            decided x y i j p q (inr (w, k, d, r)) = inr (w, i + j + k, answered x y w i j k p q d, r)

            in_right_one : (x : TermTree) (i : ℕ) → Evaluates theory (instance s a) x i →
                EvaluationMeets theory (instance s b) u ⊎
                ((y : TermTree) × (j : ℕ) × Evaluates theory (instance s b) y j ×
                Comes theory (decide e ps es start ∷ todo) (y ∷ x ∷ vals) (meets u)) →
                Through (Asking theory (premise a b ∷ ps) e.right s es f vs) (RestOf theory todo pats vals) (meets u)
            in_right_one x i p (inl q) = inl (in_right_side p q)
            in_right_one x i p (inr (y, j, q, l)) = decided x y i j p q (opened x y (meets u) l)

            in_left : EvaluationMeets theory (instance s a) u ⊎
                ((x : TermTree) × (i : ℕ) × Evaluates theory (instance s a) x i ×
                Comes theory (plan s b (decide e ps es start ∷ todo)) (x ∷ vals) (meets u)) →
                Through (Asking theory (premise a b ∷ ps) e.right s es f vs) (RestOf theory todo pats vals) (meets u)
            in_left (inl p) = inl (in_left_side p)
            in_left (inr (x, i, p, l)) = in_right_one x i p (plan_met theory s b (decide e ps es start ∷ todo) (x ∷ vals) u l)
