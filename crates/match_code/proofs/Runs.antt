-- A memo over the machine: a call is run by itself, and its value and cost are used again.
use Rattle.std.proofs.Common.{ℕ, ◌≡◌, ◌+◌, ◌<◌, List, [], ◌∷◌, ◌++◌, length, refl, sym, ap, subst, ◌∙◌, arith, drop}
use Rattle.std.proofs.Common.{inl, inr}
use Rattle.spec_core.specs.Budgets.{IsBeyond}
use Rattle.spec_core.specs.Evaluation.{Evaluates, Tries}
use Rattle.spec_core.specs.Executable.{IsExecutable}
use Rattle.spec_core.specs.Terms.{TermTree, TermTrees, no_terms, and_term}
use Rattle.spec_core.specs.Theories.{Theory}
use Rattle.spec_core.proofs.OneValue.{one_try}
use Rattle.value_nodes.specs.Sizes.{IsTooLarge}
use Rattle.rewriter.specs.Machine.{Outcome, Evaluating, gives, meets, Trying, Through, Task, call, top, Comes, Keeps, Exceeds}
use Rattle.rewriter.specs.Machine.{ComesTo, AreCounted}
use Rattle.rewriter.specs.Runs.{MeetsLarge}
use Rattle.rewriter.proofs.Moves.{keep_on, exceeds_before}
use Rattle.match_code.specs.Frames.{Waiting, start_of, Holds}

top_front : (vs us : List TermTree) (done : TermTrees) → top (length vs) (vs ++ us) done ≡ top (length vs) vs done
top_front [] us done = refl
top_front (v ∷ vs) us done = top_front vs us (and_term v done)

drop_front : (vs us : List TermTree) → drop (length vs) (vs ++ us) ≡ us
drop_front [] us = refl
drop_front (v ∷ vs) us = drop_front vs us

drop_exact : (vs : List TermTree) → drop (length vs) vs ≡ []
drop_exact [] = refl
drop_exact (v ∷ vs) = drop_exact vs

-- the arguments of a call, in their order
abbrev pub in_order : List TermTree → TermTrees
in_order args = top (length args) args no_terms

module _ (theory : Theory) (ex : IsExecutable theory) where
  -- a call over values has one value and one cost
  pub one_call : (f : ℕ) (vs : TermTrees) (v w : TermTree) (c m : ℕ) → Tries theory theory.equations f vs v c →
      Tries theory theory.equations f vs w m → (v ≡ w) × (c ≡ m)
  one_call f vs v w c m p q = one_try theory ex.orthogonal.closed p ex.orthogonal.closed vs refl q

  -- a remembered call gives its value at its whole cost
  pub remembered : (f : ℕ) (vs : TermTrees) (v : TermTree) (c : ℕ) (Q : TermTree → Outcome → Type 0) (a : ℕ) →
      ComesTo (Trying theory theory.equations f vs) v c → Keeps (Through (Trying theory theory.equations f vs) Q) a (Q v) (a + c)
  remembered f vs v c Q a t = record {
    back = λ w n q. (c + n, (v, c, n, t.value, q, refl), omega arith);
    on = λ w n l. onward w n l.0 l.1 l.2 l.3 l.4 l.5;
    met = λ u q. inr (v, c, t.value, inr q);
    large = λ u b l. none_but u b l;
  }
    where
      onward : (w : TermTree) (n : ℕ) (u : TermTree) (i m : ℕ) → Tries theory theory.equations f vs u i → Q u (gives w m) → n ≡ i + m →
          (j : ℕ) × Q v (gives w j) × (a + n ≡ a + c + j)
      onward w n u i m p q e =
          let o = one_call f vs v u c i t.value p in
          (m, subst (λ x. Q x (gives w m)) (sym o.0) q, omega (arith, o.1, e))

      none_but : (u : TermTree) → IsTooLarge u → Through (Trying theory theory.equations f vs) Q (meets u) → Q v (meets u)
      none_but u b (inl m) = absurd (t.small u m b)
      none_but u b (inr (w, i, p, inl e)) =
          let o = one_call f vs v w c i t.value p in
          absurd (t.fits (subst IsTooLarge (e ∙ sym o.0) b))
      none_but u b (inr (w, i, p, inr q)) =
          let o = one_call f vs v w c i t.value p in
          subst (λ x. Q x (meets u)) (sym o.0) q

  -- and where that is too much, whatever comes is too much
  pub remembered_spent : (f : ℕ) (vs : TermTrees) (v : TermTree) (c : ℕ) (Q : TermTree → Outcome → Type 0) (a budget : ℕ) →
      ComesTo (Trying theory theory.equations f vs) v c → budget < a + c →
      Exceeds (Through (Trying theory theory.equations f vs) Q) a budget
  remembered_spent f vs v c Q a budget t h w n l =
      let o = one_call f vs v l.0 c l.1 t.value l.3 in
      omega (arith, h, o.1, l.5)

  module _ (f : ℕ) (args vals : List TermTree) (todo : List Task) where
    -- the machine's state before the call, and that of the call alone
    abbrev pub Outer : Outcome → Type 0
    Outer o = Comes theory (call f (length args) ∷ todo) (args ++ vals) o

    abbrev pub Inner : Outcome → Type 0
    Inner o = Comes theory (call f (length args) ∷ []) args o

    outer_in : (o : Outcome) → Through (Trying theory theory.equations f (in_order args)) (λ w. Comes theory todo (w ∷ vals)) o → Outer o
    outer_in o l =
        subst (λ us. Through (Trying theory theory.equations f us) (λ w. Comes theory todo (w ∷ drop (length args) (args ++ vals))) o)
        (sym (top_front args vals no_terms))
        (subst (λ us. Through (Trying theory theory.equations f (in_order args)) (λ w. Comes theory todo (w ∷ us)) o)
        (sym (drop_front args vals)) l)

    outer_out : (o : Outcome) → Outer o → Through (Trying theory theory.equations f (in_order args)) (λ w. Comes theory todo (w ∷ vals)) o
    outer_out o l =
        subst (λ us. Through (Trying theory theory.equations f (in_order args)) (λ w. Comes theory todo (w ∷ us)) o)
        (drop_front args vals)
        (subst (λ us. Through (Trying theory theory.equations f us) (λ w. Comes theory todo (w ∷ drop (length args) (args ++ vals))) o)
        (top_front args vals no_terms) l)

    -- the call's run has ended with one value: it is the call's, at the cost of the uses since it began
    pub frame_ended : (v : TermTree) (start uses : ℕ) → Keeps Inner start (Comes theory [] (v ∷ [])) uses →
        (c : ℕ) × ComesTo (Trying theory theory.equations f (in_order args)) v c × (start + c ≡ uses)
    frame_ended v start uses h =
        let x = h.back v 0 (refl, refl) in
        ends x.0 x.1.0 x.1.1 x.1.2 x.1.3 x.1.4.0 x.1.4.1 x.1.5 x.2
      where
        ends : (m : ℕ) (w : TermTree) (c i : ℕ) → Tries theory theory.equations f (in_order args) w c → w ∷ drop (length args) args ≡ v ∷ [] →
            i ≡ 0 → m ≡ c + i → start + m ≡ uses + 0 →
            (c : ℕ) × ComesTo (Trying theory theory.equations f (in_order args)) v c × (start + c ≡ uses)
        ends m w c i t e z p q =
            let g : w ≡ v = cc in
            let tries = subst (λ u. Tries theory theory.equations f (in_order args) u c) g t in (
              c,
              record {
                value = tries;
                small = λ u m b. h.large u b (inl m);
                fits = λ b. h.large v b (inr (v, c, tries, inl refl));
              },
              omega (arith, z, p, q),
            )

    -- a remembered call, in the machine
    pub frame_used : (v : TermTree) (c a : ℕ) → ComesTo (Trying theory theory.equations f (in_order args)) v c →
        Keeps Outer a (Comes theory todo (v ∷ vals)) (a + c)
    frame_used v c a t =
        let q = remembered f (in_order args) v c (λ w. Comes theory todo (w ∷ vals)) a t in
        record {
          back = λ w n l. let x = q.back w n l in (x.0, outer_in (gives w x.0) x.1, x.2);
          on = λ w n l. q.on w n (outer_out (gives w n) l);
          met = λ u l. outer_in (meets u) (q.met u l);
          large = λ u b l. q.large u b (outer_out (meets u) l);
        }

    -- what is counted before the call is counted behind it
    pub frame_counted : (v : TermTree) (c a : ℕ) → ComesTo (Trying theory theory.equations f (in_order args)) v c →
        AreCounted theory a (call f (length args) ∷ todo) (args ++ vals) → AreCounted theory (a + c) todo (v ∷ vals)
    frame_counted v c a t h =
        let e = subst (λ us. ComesTo (Trying theory theory.equations f us) v c) (sym (top_front args vals no_terms)) t in
        subst (λ us. AreCounted theory (a + c) todo (v ∷ us)) (drop_front args vals) (h v c e)

    -- what is too much for the call alone is too much
    pub frame_spent : (a budget : ℕ) → Exceeds Inner a budget → Exceeds Outer a budget
    frame_spent a budget h w n l =
        let x = outer_out (gives w n) l in
        let i : Inner (gives x.0 x.1) = (x.0, x.1, 0, x.3, (ap (λ us. x.0 ∷ us) (drop_exact args), refl), omega arith) in
        let y = h x.0 x.1 i in
        omega (arith, x.5, y)

    -- what the call alone meets, is met
    pub frame_large : MeetsLarge Inner → MeetsLarge Outer
    frame_large h = (h.0, outer_in (meets h.0) (by_case h.1), h.2)
      where
        by_case : Inner (meets h.0) →
            Through (Trying theory theory.equations f (in_order args)) (λ w. Comes theory todo (w ∷ vals)) (meets h.0)
        by_case (inl t) = inl t
        by_case (inr (w, c, t, inl e)) = inr (w, c, t, inl e)
        by_case (inr (w, c, t, inr n)) = absurd n

module _ (theory : Theory) (ex : IsExecutable theory) (t : TermTree) where
  -- the innermost run takes a step
  pub runs_step : (ws : List Waiting) (todo after : List Task) (there now : List TermTree) (uses u : ℕ) →
      Holds theory t ws todo there uses → Keeps (Comes theory todo there) uses (Comes theory after now) u → Holds theory t ws after now u
  runs_step ws todo after there now uses u h k = record { waiting = h.waiting; kept = keep_on (start_of ws) uses u h.kept k }

  -- a call is run by itself
  pub runs_open : (w : Waiting) (ws : List Waiting) →
      Holds theory t ws (call w.op (length w.args) ∷ w.todo) (w.args ++ w.there) w.start →
      AreCounted theory w.start (call w.op (length w.args) ∷ w.todo) (w.args ++ w.there) →
      Holds theory t (w ∷ ws) (call w.op (length w.args) ∷ []) w.args w.start
  runs_open w ws h c = record {
    waiting = (h.kept, c, h.waiting);
    kept = record { back = λ v n l. (n, l, refl); on = λ v n l. (n, l, refl); met = λ u l. l; large = λ u b l. l };
  }

  -- a run of a call has ended: its value and its cost are the call's, and the run outside goes on with the value
  pub runs_close : (w : Waiting) (ws : List Waiting) (v : TermTree) (uses : ℕ) → Holds theory t (w ∷ ws) [] (v ∷ []) uses →
      (c : ℕ) × ComesTo (Trying theory theory.equations w.op (in_order w.args)) v c × (w.start + c ≡ uses) ×
      AreCounted theory uses w.todo (v ∷ w.there) × Holds theory t ws w.todo (v ∷ w.there) uses
  runs_close w ws v uses h =
      let e = frame_ended theory ex w.op w.args w.there w.todo v w.start uses
      (record { back = h.kept.back; on = h.kept.on; met = h.kept.met; large = h.kept.large }) in
      let q = frame_used theory ex w.op w.args w.there w.todo v e.0 w.start e.1 in
      let n = frame_counted theory ex w.op w.args w.there w.todo v e.0 w.start e.1 h.waiting.1 in
      let r = subst (λ u. Keeps (Comes theory (call w.op (length w.args) ∷ w.todo) (w.args ++ w.there)) w.start
      (Comes theory w.todo (v ∷ w.there)) u) e.2 (record { back = q.back; on = q.on; met = q.met; large = q.large }) in (
        e.0,
        e.1,
        e.2,
        subst (λ u. AreCounted theory u w.todo (v ∷ w.there)) e.2 n,
        record { waiting = h.waiting.2; kept = keep_on (start_of ws) w.start uses h.waiting.0 r },
      )

  -- what is too much for the innermost run is too much for the term
  pub runs_spent : (ws : List Waiting) (todo : List Task) (there : List TermTree) (uses budget : ℕ) →
      Holds theory t ws todo there uses → Exceeds (Comes theory todo there) uses budget → IsBeyond theory t budget
  runs_spent [] todo there uses budget h e = λ v n p. let x = h.kept.on v n p in let y = e v x.0 x.1 in omega (arith, x.2, y)
  runs_spent (w ∷ ws) todo there uses budget h e =
      let inner = exceeds_before w.start uses budget h.kept e in
      let outer = frame_spent theory ex w.op w.args w.there w.todo w.start budget (λ v n l. inner v n l) in
      runs_spent ws (call w.op (length w.args) ∷ w.todo) (w.args ++ w.there) w.start budget
      (record { waiting = h.waiting.2; kept = h.waiting.0 }) (λ v n l. outer v n l)

  -- what the innermost run meets, the term's evaluation meets
  pub runs_large : (ws : List Waiting) (todo : List Task) (there : List TermTree) (uses : ℕ) → Holds theory t ws todo there uses →
      MeetsLarge (Comes theory todo there) → MeetsLarge (Evaluating theory t)
  runs_large [] todo there uses h m = (m.0, h.kept.met m.0 m.1, m.2)
  runs_large (w ∷ ws) todo there uses h m =
      let outer = frame_large theory ex w.op w.args w.there w.todo (m.0, h.kept.met m.0 m.1, m.2) in
      runs_large ws (call w.op (length w.args) ∷ w.todo) (w.args ++ w.there) w.start
      (record { waiting = h.waiting.2; kept = h.waiting.0 }) (outer.0, outer.1, outer.2)

  -- the outermost run has ended
  pub runs_ended : (v : TermTree) (uses : ℕ) → Holds theory t [] [] (v ∷ []) uses →
      Evaluates theory t v uses × (MeetsLarge (Evaluating theory t) → ⊥)
  runs_ended v uses h =
      let x = h.kept.back v 0 (refl, refl) in
      let e : x.0 ≡ uses = omega (arith, x.2) in
      (subst (λ n. Evaluates theory t v n) e x.1, λ m. h.kept.large m.0 m.2 m.1)
