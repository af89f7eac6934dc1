-- How the machine begins, decides and ends.
use Rattle.std.proofs.Common.{ℕ, ◌≡◌, ◌+◌, List, [], ◌∷◌, refl, sym, ap, subst, ◌∙◌, arith, drop, inl, inr}
use Rattle.spec_core.specs.Terms.{TermTree, TermTrees, variable, apply, no_terms, and_term, width, instance, instances, Occurs}
use Rattle.spec_core.specs.Terms.{OccursInAny, IsGround, AreGround}
use Rattle.spec_core.specs.Theories.{Premise, ConditionalEquation, Theory, OccursInPremises}
use Rattle.spec_core.specs.Orthogonality.{HasNoLooseVariables}
use Rattle.spec_core.specs.Lists.{Each}
use Rattle.spec_core.specs.Evaluation.{Evaluates, Tries, Asks, EvaluationMeets, TriesMeet, AsksMeet, its_value}
use Rattle.spec_core.proofs.OneValue.{agree}
use Rattle.rewriter.specs.Machine.{Outcome, gives, meets, Evaluating, Trying, Asking, Deciding, Through, Task, decide, plan, top, OnCall}
use Rattle.rewriter.specs.Machine.{Comes, Keeps, AreCounted}
use Rattle.rewriter.proofs.Counted.{counted_plan}
use Rattle.rewriter.proofs.Plans.{planned}
use Rattle.rewriter.proofs.Moves.{keep_on, through, same_asks, same_meets, RestOf}

module _ (theory : Theory) (e : ConditionalEquation) (ps : List Premise) (es : List ConditionalEquation) (f : ℕ) (vs : TermTrees)
    (a b : TermTree) where
  -- where the sides of a premise have one value, the next premises are left
  pub alike_asks : (s : ℕ → TermTree) (c : ℕ) → instance s e.left ≡ apply f vs → HasNoLooseVariables e →
      ((x : ℕ) → OccursInPremises x ps → OccursInPremises x e.premises) → a ≡ b →
      Keeps (Deciding theory e ps es f vs a b) c (Asking theory ps e.right s es f vs) c
  alike_asks s c fit tight inside alike = record {
    back = λ v n t. (n, inl (alike, (s, fit, t)), refl);
    on = λ v n t. (n, goes_on t, refl);
    met = λ w t. inl (alike, (s, fit, t));
    large = λ w big t. still_met t;
  }
    where
      goes_on : {v : TermTree} {n : ℕ} → Deciding theory e ps es f vs a b (gives v n) → Asks theory ps e.right s es f vs v n
      goes_on (inl (q, (z, g, t))) =
          let h : instance z e.left ≡ instance s e.left = g ∙ sym fit in
          same_asks z s (λ x o. agree z s e.left h x (tight.right x o)) (λ x o. agree z s e.left h x (tight.premises x (inside x o))) t
      goes_on (inr (d, t)) = absurd (d alike)

      still_met : {w : TermTree} → Deciding theory e ps es f vs a b (meets w) → AsksMeet theory ps e.right s es f vs w
      still_met (inl (q, (z, g, t))) =
          let h : instance z e.left ≡ instance s e.left = g ∙ sym fit in
          same_meets z s (λ x o. agree z s e.left h x (tight.right x o)) (λ x o. agree z s e.left h x (tight.premises x (inside x o))) t
      still_met (inr (d, t)) = absurd (d alike)

  -- where they have two values, the next equations are left
  pub unalike_tries : (c : ℕ) → (a ≡ b → ⊥) → Keeps (Deciding theory e ps es f vs a b) c (Trying theory es f vs) c
  unalike_tries c differ = record {
    back = λ v n t. (n, inr (differ, t), refl);
    on = λ v n t. (n, goes_on t, refl);
    met = λ w t. inr (differ, t);
    large = λ w big t. still_met t;
  }
    where
      goes_on : {v : TermTree} {n : ℕ} → Deciding theory e ps es f vs a b (gives v n) → Tries theory es f vs v n
      goes_on (inl (q, rest)) = absurd (differ q)
      goes_on (inr (d, t)) = t

      still_met : {w : TermTree} → Deciding theory e ps es f vs a b (meets w) → TriesMeet theory es f vs w
      still_met (inl (q, rest)) = absurd (differ q)
      still_met (inr (d, t)) = t

module _ (theory : Theory) (e : ConditionalEquation) (ps : List Premise) (es : List ConditionalEquation) (f : ℕ) (pats vs : TermTrees)
    (todo : List Task) (vals : List TermTree) (a b : TermTree) (start : ℕ) (left : e.left ≡ apply f pats)
    (over : vs ≡ top (width pats) vals no_terms) where
  pub opened : (o : Outcome) → Comes theory (decide e ps es start ∷ todo) (b ∷ a ∷ vals) o →
      Through (Deciding theory e ps es f vs a b) (RestOf theory todo pats vals) o
  opened o l = subst (λ us. Through (Deciding theory e ps es f us a b) (RestOf theory todo pats vals) o) (sym over)
      (subst (λ t. OnCall t (λ f pats. Through (Deciding theory e ps es f (top (width pats) vals no_terms) a b)
      (λ w. Comes theory todo (w ∷ drop (width pats) vals)) o)) left l)

  closed : (o : Outcome) → Through (Deciding theory e ps es f vs a b) (RestOf theory todo pats vals) o →
      Comes theory (decide e ps es start ∷ todo) (b ∷ a ∷ vals) o
  closed o l = subst (λ t. OnCall t
      (λ f pats. Through (Deciding theory e ps es f (top (width pats) vals no_terms) a b)
      (λ w. Comes theory todo (w ∷ drop (width pats) vals)) o)) (sym left)
      (subst (λ us. Through (Deciding theory e ps es f us a b) (RestOf theory todo pats vals) o) over l)

  taken_up : (c : ℕ) → Keeps (Comes theory (decide e ps es start ∷ todo) (b ∷ a ∷ vals)) c
      (Through (Deciding theory e ps es f vs a b) (RestOf theory todo pats vals)) c
  taken_up c = record {
    back = λ v n l. (n, closed (gives v n) l, refl);
    on = λ v n l. (n, opened (gives v n) l, refl);
    met = λ w l. closed (meets w) l;
    large = λ w b l. opened (meets w) l;
  }

  -- equal sides: the next premises, by the substitution of any match
  pub decided_alike : (s : ℕ → TermTree) (c : ℕ) → instance s e.left ≡ apply f vs → HasNoLooseVariables e →
      ((x : ℕ) → OccursInPremises x ps → OccursInPremises x e.premises) → a ≡ b →
      Keeps (Comes theory (decide e ps es start ∷ todo) (b ∷ a ∷ vals)) c
      (Through (Asking theory ps e.right s es f vs) (RestOf theory todo pats vals)) c
  decided_alike s c fit tight inside alike =
      keep_on c c c (taken_up c)
      (through (RestOf theory todo pats vals) c c (alike_asks theory e ps es f vs a b s c fit tight inside alike))

  -- unequal sides: the next equations
  pub decided_unalike : (c : ℕ) → (a ≡ b → ⊥) →
      Keeps (Comes theory (decide e ps es start ∷ todo) (b ∷ a ∷ vals)) c (Through (Trying theory es f vs) (RestOf theory todo pats vals)) c
  decided_unalike c differ =
      keep_on c c c (taken_up c) (through (RestOf theory todo pats vals) c c (unalike_tries theory e ps es f vs a b c differ))

mutual
  ground_instance : (s : ℕ → TermTree) (t : TermTree) → IsGround t → instance s t ≡ t
  ground_instance s (variable x) g = absurd g
  ground_instance s (apply f ts) g = ap (apply f) (ground_instances s ts g)

  ground_instances : (s : ℕ → TermTree) (ts : TermTrees) → AreGround ts → instances s ts ≡ ts
  ground_instances s no_terms g = refl
  ground_instances s (and_term t ts) g =
      let x = ground_instance s t g.0 in
      let y = ground_instances s ts g.1 in
      cc

mutual
  pub no_variable : (t : TermTree) → IsGround t → (x : ℕ) → Occurs x t → ⊥
  no_variable (variable y) g x o = g
  no_variable (apply f ts) g x o = no_variables_in ts g x o

  no_variables_in : (ts : TermTrees) → AreGround ts → (x : ℕ) → OccursInAny x ts → ⊥
  no_variables_in no_terms g x o = o
  no_variables_in (and_term t ts) g x (inl o) = no_variable t g.0 x o
  no_variables_in (and_term t ts) g x (inr o) = no_variables_in ts g.1 x o

head_one : {a b : TermTree} → a ∷ [] ≡ b ∷ [] → a ≡ b
head_one e = cc

module _ (theory : Theory) (t : TermTree) (ground : IsGround t) where
  alone : Keeps (Evaluating theory t) 0 (Through (Evaluating theory t) (λ w. Comes theory [] (w ∷ []))) 0
  alone = record {
    back = λ v n l. (n, last v n l.0 l.1 l.2 l.3 l.4 l.5, refl);
    on = λ v m p. (m, (v, m, 0, p, (refl, refl), omega arith), refl);
    met = λ u l. seen u l;
    large = λ u b m. inl m;
  }
    where
      last : (v : TermTree) (n : ℕ) (w : TermTree) (c m : ℕ) → Evaluates theory t w c → (w ∷ [] ≡ v ∷ []) × (m ≡ 0) → n ≡ c + m →
          Evaluates theory t v n
      last v n w c m p q e = let i : c ≡ n = omega (arith, e, q.1) in
          subst (λ k. Evaluates theory t v k) i (subst (λ u. Evaluates theory t u c) (head_one q.0) p)

      seen : (u : TermTree) → Through (Evaluating theory t) (λ w. Comes theory [] (w ∷ [])) (meets u) → EvaluationMeets theory t u
      seen u (inl p) = p
      seen u (inr (w, c, p, inl q)) = subst (EvaluationMeets theory t) (sym q) (its_value p)
      seen u (inr (w, c, p, inr l)) = absurd l

  -- at the start: a ground term's tasks, and no value
  pub begin : (s : ℕ → TermTree) → Keeps (Evaluating theory t) 0 (Comes theory (plan s t []) []) 0
  begin s =
      keep_on 0 0 0 alone
      (subst (λ u. Keeps (Through (Evaluating theory u) (λ w. Comes theory [] (w ∷ []))) 0 (Comes theory (plan s t []) []) 0)
      (ground_instance s t ground)
      (planned theory s t [] [] 0))

  -- and all is counted
  pub begin_counted : Each HasNoLooseVariables theory.equations → (s : ℕ → TermTree) → AreCounted theory 0 (plan s t []) []
  begin_counted tights s = counted_plan theory tights s t [] [] 0 (λ w c p. tt)
