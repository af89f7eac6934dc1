-- The tasks of a term come to what its evaluation comes to.
use Rattle.std.proofs.Common.{ℕ, suc, ◌≡◌, ◌+◌, List, ◌∷◌, refl, sym, ap, subst, ◌∙◌, arith, drop, inl, inr, ◌⊎◌}
use Rattle.spec_core.specs.Terms.{TermTree, TermTrees, variable, apply, no_terms, and_term, width, instance, instances}
use Rattle.spec_core.specs.Theories.{Theory}
use Rattle.spec_core.specs.Evaluation.{Evaluates, EvaluatesAll, Tries, called, none, more, EvaluationMeets, ArgumentsMeet, TriesMeet}
use Rattle.spec_core.specs.Evaluation.{its_value, in_arguments, in_call, first, later}
use Rattle.data_laws.proofs.Exists.{width_instances, width_values}
use Rattle.rewriter.specs.Machine.{gives, meets, Evaluating, Through, Task, call, plan, plan_all, top, Comes, Keeps}

-- values put on the stack from the left
abbrev pub onto : TermTrees → List TermTree → List TermTree
onto no_terms vals = vals
onto (and_term v vs) vals = onto vs (v ∷ vals)

abbrev joined : TermTrees → TermTrees → TermTrees
joined no_terms us = us
joined (and_term t ts) us = and_term t (joined ts us)

top_onto : (ts : TermTrees) (m : ℕ) (vals : List TermTree) (done : TermTrees) →
    top (width ts + m) (onto ts vals) done ≡ top m vals (joined ts done)
top_onto no_terms m vals done = ap (λ k. top k vals done) (omega arith)
top_onto (and_term t ts) m vals done =
    let e : suc (width ts) + m ≡ width ts + suc m = omega arith in
    ap (λ k. top k (onto ts (t ∷ vals)) done) e ∙ top_onto ts (suc m) (t ∷ vals) done

drop_onto : (ts : TermTrees) (m : ℕ) (vals : List TermTree) → drop (width ts + m) (onto ts vals) ≡ drop m vals
drop_onto no_terms m vals = ap (λ k. drop k vals) (omega arith)
drop_onto (and_term t ts) m vals =
    let e : suc (width ts) + m ≡ width ts + suc m = omega arith in
    ap (λ k. drop k (onto ts (t ∷ vals))) e ∙ drop_onto ts (suc m) (t ∷ vals)

joined_none : (ts : TermTrees) → joined ts no_terms ≡ ts
joined_none no_terms = refl
joined_none (and_term t ts) = ap (and_term t) (joined_none ts)

pub taken : (ts us : TermTrees) (vals : List TermTree) → width ts ≡ width us → top (width us) (onto ts vals) no_terms ≡ ts
taken ts us vals e =
    let q : width us ≡ width ts + 0 = omega arith in
    ap (λ k. top k (onto ts vals) no_terms) q ∙ top_onto ts 0 vals no_terms ∙ joined_none ts

pub dropped : (ts us : TermTrees) (vals : List TermTree) → width ts ≡ width us → drop (width us) (onto ts vals) ≡ vals
dropped ts us vals e =
    let q : width us ≡ width ts + 0 = omega arith in
    ap (λ k. drop k (onto ts vals)) q ∙ drop_onto ts 0 vals

module _ (theory : Theory) (s : ℕ → TermTree) where
  pub wide : (ts vs : TermTrees) (k : ℕ) → EvaluatesAll theory (instances s ts) vs k → width vs ≡ width ts
  wide ts vs k a = sym (width_values theory a) ∙ width_instances s ts

  mutual
    pub plan_back : (t : TermTree) → (todo : List Task) (vals : List TermTree) (w v : TermTree) (k m n : ℕ) → Evaluates theory (instance s t) w k →
        Comes theory todo (w ∷ vals) (gives v m) → n ≡ k + m → Comes theory (plan s t todo) vals (gives v n)
    plan_back (variable x) todo vals w v k m n e l q = (w, k, m, e, l, q)
    plan_back (apply f ts) todo vals w v k m n (called vs i j a t p) l q =
        let g = wide ts vs i a in
        plan_all_back ts (call f (width ts) ∷ todo) vals vs v i (j + m) n a (
          w,
          j,
          m,
          subst (λ us. Tries theory theory.equations f us w j) (sym (taken vs ts vals g)) t,
          subst (λ us. Comes theory todo (w ∷ us) (gives v m)) (sym (dropped vs ts vals g)) l,
          refl,
        )
        (omega (arith, p, q))

    pub plan_all_back : (ts : TermTrees) → (todo : List Task) (vals : List TermTree) (ws : TermTrees) (v : TermTree) (k m n : ℕ) →
        EvaluatesAll theory (instances s ts) ws k → Comes theory todo (onto ws vals) (gives v m) → n ≡ k + m →
        Comes theory (plan_all s ts todo) vals (gives v n)
    plan_all_back no_terms todo vals ws v k m n (none e) l q = let c : m ≡ n = omega (arith, e, q) in
        subst (λ i. Comes theory todo vals (gives v i)) c l
    plan_all_back (and_term t ts) todo vals ws v k m n (more {v = w} {vs = us} i j a b e) l q =
        plan_back t (plan_all s ts todo) vals w v i (j + m) n a
        (plan_all_back ts todo (w ∷ vals) us v j m (j + m) b l refl) (omega (arith, e, q))

  mutual
    pub plan_on : (t : TermTree) → (todo : List Task) (vals : List TermTree) (v : TermTree) (n : ℕ) → Comes theory (plan s t todo) vals (gives v n) →
        (w : TermTree) × (k m : ℕ) × Evaluates theory (instance s t) w k × Comes theory todo (w ∷ vals) (gives v m) × (n ≡ k + m)
    plan_on (variable x) todo vals v n l = l
    plan_on (apply f ts) todo vals v n l =
        let r = plan_all_on ts (call f (width ts) ∷ todo) vals v n l in
        let g = wide ts r.0 r.1 r.3 in
        let t = subst (λ us. Tries theory theory.equations f us r.4.0 r.4.1) (taken r.0 ts vals g) r.4.3 in (
          r.4.0,
          r.1 + r.4.1,
          r.4.2,
          called r.0 r.1 r.4.1 r.3 t refl,
          subst (λ us. Comes theory todo (r.4.0 ∷ us) (gives v r.4.2)) (dropped r.0 ts vals g) r.4.4,
          omega (arith, r.5, r.4.5),
        )

    pub plan_all_on : (ts : TermTrees) → (todo : List Task) (vals : List TermTree) (v : TermTree) (n : ℕ) → Comes theory (plan_all s ts todo) vals (gives v n) →
        (ws : TermTrees) × (k m : ℕ) × EvaluatesAll theory (instances s ts) ws k × Comes theory todo (onto ws vals) (gives v m) ×
        (n ≡ k + m)
    plan_all_on no_terms todo vals v n l = (no_terms, 0, n, none refl, l, omega arith)
    plan_all_on (and_term t ts) todo vals v n l =
        let a = plan_on t (plan_all s ts todo) vals v n l in
        let r = plan_all_on ts todo (a.0 ∷ vals) v a.2 a.4 in
        (and_term a.0 r.0, a.1 + r.1, r.2, more a.1 r.1 a.3 r.3 refl, r.4, omega (arith, r.5, a.5))

  mutual
    -- what the tasks meet, the evaluation meets, or what comes after it
    pub plan_met : (t : TermTree) → (todo : List Task) (vals : List TermTree) (u : TermTree) → Comes theory (plan s t todo) vals (meets u) →
        EvaluationMeets theory (instance s t) u ⊎
        ((w : TermTree) × (k : ℕ) × Evaluates theory (instance s t) w k × Comes theory todo (w ∷ vals) (meets u))
    plan_met (variable x) todo vals u (inl m) = inl m
    plan_met (variable x) todo vals u (inr (w, k, e, inl q)) = inl (subst (EvaluationMeets theory (s x)) (sym q) (its_value e))
    plan_met (variable x) todo vals u (inr (w, k, e, inr l)) = inr (w, k, e, l)
    plan_met (apply f ts) todo vals u l = after (plan_all_met ts (call f (width ts) ∷ todo) vals u l)
      where
        at_call : (ws : TermTrees) (k : ℕ) → EvaluatesAll theory (instances s ts) ws k →
            Comes theory (call f (width ts) ∷ todo) (onto ws vals) (meets u) →
            EvaluationMeets theory (apply f (instances s ts)) u ⊎
            ((w : TermTree) × (k : ℕ) × Evaluates theory (apply f (instances s ts)) w k × Comes theory todo (w ∷ vals) (meets u))
        at_call ws k a (inl t) = inl (in_call a
            (subst (λ us. TriesMeet theory theory.equations f us u) (taken ws ts vals (wide ts ws k a)) t))
        at_call ws k a (inr (w, c, p, r)) =
            let t = subst (λ us. Tries theory theory.equations f us w c) (taken ws ts vals (wide ts ws k a)) p in
            let e : Evaluates theory (apply f (instances s ts)) w (k + c) = called ws k c a t refl in
            by_value w (k + c) e (subst (λ us. (u ≡ w) ⊎ Comes theory todo (w ∷ us) (meets u)) (dropped ws ts vals (wide ts ws k a)) r)
          where
            by_value : (w : TermTree) (n : ℕ) → Evaluates theory (apply f (instances s ts)) w n →
                (u ≡ w) ⊎ Comes theory todo (w ∷ vals) (meets u) →
                EvaluationMeets theory (apply f (instances s ts)) u ⊎
                ((w : TermTree) × (k : ℕ) × Evaluates theory (apply f (instances s ts)) w k × Comes theory todo (w ∷ vals) (meets u))
            by_value w n e (inl q) = inl (subst (EvaluationMeets theory (apply f (instances s ts))) (sym q) (its_value e))
            by_value w n e (inr l) = inr (w, n, e, l)

        after : ArgumentsMeet theory (instances s ts) u ⊎
            ((ws : TermTrees) × (k : ℕ) × EvaluatesAll theory (instances s ts) ws k ×
            Comes theory (call f (width ts) ∷ todo) (onto ws vals) (meets u)) →
            EvaluationMeets theory (apply f (instances s ts)) u ⊎
            ((w : TermTree) × (k : ℕ) × Evaluates theory (apply f (instances s ts)) w k × Comes theory todo (w ∷ vals) (meets u))
        after (inl a) = inl (in_arguments a)
        after (inr (ws, k, a, l)) = at_call ws k a l

    plan_all_met : (ts : TermTrees) → (todo : List Task) (vals : List TermTree) (u : TermTree) → Comes theory (plan_all s ts todo) vals (meets u) →
        ArgumentsMeet theory (instances s ts) u ⊎
        ((ws : TermTrees) × (k : ℕ) × EvaluatesAll theory (instances s ts) ws k × Comes theory todo (onto ws vals) (meets u))
    plan_all_met no_terms todo vals u l = inr (no_terms, 0, none refl, l)
    plan_all_met (and_term t ts) todo vals u l =
        after (plan_met t (plan_all s ts todo) vals u l)
        (λ w m. plan_all_met ts todo (w ∷ vals) u m)
      where
        last : (w : TermTree) (k : ℕ) → Evaluates theory (instance s t) w k →
            ArgumentsMeet theory (instances s ts) u ⊎
            ((ws : TermTrees) × (k : ℕ) × EvaluatesAll theory (instances s ts) ws k × Comes theory todo (onto ws (w ∷ vals)) (meets u)) →
            ArgumentsMeet theory (and_term (instance s t) (instances s ts)) u ⊎
            ((ws : TermTrees) × (k : ℕ) × EvaluatesAll theory (and_term (instance s t) (instances s ts)) ws k ×
            Comes theory todo (onto ws vals) (meets u))
        last w k e (inl a) = inl (later e a)
        last w k e (inr (ws, n, a, l)) = inr (and_term w ws, k + n, more k n e a refl, l)

        after : EvaluationMeets theory (instance s t) u ⊎
            ((w : TermTree) × (k : ℕ) × Evaluates theory (instance s t) w k × Comes theory (plan_all s ts todo) (w ∷ vals) (meets u)) →
            ((w : TermTree) → Comes theory (plan_all s ts todo) (w ∷ vals) (meets u) →
            ArgumentsMeet theory (instances s ts) u ⊎
            ((ws : TermTrees) × (k : ℕ) × EvaluatesAll theory (instances s ts) ws k × Comes theory todo (onto ws (w ∷ vals)) (meets u))) →
            ArgumentsMeet theory (and_term (instance s t) (instances s ts)) u ⊎
            ((ws : TermTrees) × (k : ℕ) × EvaluatesAll theory (and_term (instance s t) (instances s ts)) ws k ×
            Comes theory todo (onto ws vals) (meets u))
        after (inl m) rest = inl (first m)
        after (inr (w, k, e, l)) rest = last w k e (rest w l)

  -- a call over these values gives this value, and the call's task meets it, and what comes after it
  at_value : (f : ℕ) (ts : TermTrees) (todo : List Task) (vals : List TermTree) (vs : TermTrees) (w u : TermTree) (i j : ℕ) →
      EvaluatesAll theory (instances s ts) vs i → Tries theory theory.equations f vs w j →
      (u ≡ w) ⊎ Comes theory todo (w ∷ vals) (meets u) → Comes theory (call f (width ts) ∷ todo) (onto vs vals) (meets u)
  at_value f ts todo vals vs w u i j a t l =
      let g = wide ts vs i a in inr (
        w,
        j,
        subst (λ us. Tries theory theory.equations f us w j) (sym (taken vs ts vals g)) t,
        subst (λ us. (u ≡ w) ⊎ Comes theory todo (w ∷ us) (meets u)) (sym (dropped vs ts vals g)) l,
      )

  mutual
    -- what comes after the evaluation's value, the tasks meet
    pub plan_reaches : (t : TermTree) → (todo : List Task) (vals : List TermTree) (w u : TermTree) (k : ℕ) → Evaluates theory (instance s t) w k →
        Comes theory todo (w ∷ vals) (meets u) → Comes theory (plan s t todo) vals (meets u)
    plan_reaches (variable x) todo vals w u k e l = inr (w, k, e, inr l)
    plan_reaches (apply f ts) todo vals w u k (called vs i j a t p) l =
        plan_all_reaches ts (call f (width ts) ∷ todo) vals vs u i a (at_value f ts todo vals vs w u i j a t (inr l))

    plan_all_reaches : (ts : TermTrees) → (todo : List Task) (vals : List TermTree) (ws : TermTrees) (u : TermTree) (k : ℕ) → EvaluatesAll theory (instances s ts) ws k →
        Comes theory todo (onto ws vals) (meets u) → Comes theory (plan_all s ts todo) vals (meets u)
    plan_all_reaches no_terms todo vals ws u k (none e) l = l
    plan_all_reaches (and_term t ts) todo vals ws u k (more {v = w} {vs = us} i j a b e) l =
        plan_reaches t (plan_all s ts todo) vals w u i a
        (plan_all_reaches ts todo (w ∷ vals) us u j b l)

  mutual
    -- what the evaluation meets, the tasks meet
    pub plan_meets : (t : TermTree) → (todo : List Task) (vals : List TermTree) (u : TermTree) →
        EvaluationMeets theory (instance s t) u → Comes theory (plan s t todo) vals (meets u)
    plan_meets (variable x) todo vals u m = inl m
    plan_meets (apply f ts) todo vals u (its_value (called vs i j a t p)) =
        plan_all_reaches ts (call f (width ts) ∷ todo) vals vs u i a (at_value f ts todo vals vs u u i j a t (inl refl))
    plan_meets (apply f ts) todo vals u (in_arguments m) =
        plan_all_meets ts (call f (width ts) ∷ todo) vals u m
    plan_meets (apply f ts) todo vals u (in_call {vs = vs} {n = i} a m) =
        plan_all_reaches ts (call f (width ts) ∷ todo) vals vs u i a
        (inl (subst (λ us. TriesMeet theory theory.equations f us u) (sym (taken vs ts vals (wide ts vs i a))) m))

    plan_all_meets : (ts : TermTrees) → (todo : List Task) (vals : List TermTree) (u : TermTree) →
        ArgumentsMeet theory (instances s ts) u → Comes theory (plan_all s ts todo) vals (meets u)
    plan_all_meets no_terms todo vals u m = elim m [ ]
    plan_all_meets (and_term t ts) todo vals u (first m) =
        plan_meets t (plan_all s ts todo) vals u m
    plan_all_meets (and_term t ts) todo vals u (later {v = w} {n = k} e m) =
        plan_reaches t (plan_all s ts todo) vals w u k e
        (plan_all_meets ts todo (w ∷ vals) u m)

  -- a term's tasks come to what its evaluation, and then the rest, come to
  pub planned : (t : TermTree) → (todo : List Task) (vals : List TermTree) (a : ℕ) →
      Keeps (Through (Evaluating theory (instance s t)) (λ w. Comes theory todo (w ∷ vals))) a (Comes theory (plan s t todo) vals) a
  planned t todo vals a = record {
    back = λ v n l. (n, plan_on t todo vals v n l, refl);
    on = λ v m p. (m, plan_back t todo vals p.0 v p.1 p.2 m p.3 p.4 p.5, refl);
    met = λ u l. after u (plan_met t todo vals u l);
    large = λ u big l. before u l;
  }
    where
      before : (u : TermTree) → Through (Evaluating theory (instance s t)) (λ w. Comes theory todo (w ∷ vals)) (meets u) →
          Comes theory (plan s t todo) vals (meets u)
      before u (inl m) = plan_meets t todo vals u m
      before u (inr (w, k, e, inl q)) =
          plan_meets t todo vals u (subst (EvaluationMeets theory (instance s t)) (sym q) (its_value e))
      before u (inr (w, k, e, inr l)) = plan_reaches t todo vals w u k e l

      after : (u : TermTree) → EvaluationMeets theory (instance s t) u ⊎
          ((w : TermTree) × (k : ℕ) × Evaluates theory (instance s t) w k × Comes theory todo (w ∷ vals) (meets u)) →
          Through (Evaluating theory (instance s t)) (λ w. Comes theory todo (w ∷ vals)) (meets u)
      after u (inl m) = inl m
      after u (inr (w, k, e, l)) = inr (w, k, e, inr l)
