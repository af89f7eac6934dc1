-- What writes a term's lines evaluates it.
use Rattle.std.proofs.Common.{ℕ, ◌≡◌, ◌+◌, List, [], ◌∷◌, refl, sym, subst, inl, inr, ◌⊎◌}
use Rattle.spec_core.specs.Evaluation.{Evaluates, EvaluatesAll, Tries, Asks, called, none, more, final, unlike, like, used, holds, fails}
use Rattle.spec_core.specs.Terms.{TermTree, TermTrees, instance}
use Rattle.spec_core.specs.Theories.{Premise, premise, ConditionalEquation, Theory}
use Rattle.canonical_proof.specs.Canonical.{Writes, WritesAll, WritesCall, WritesPremises, OneFails, of_call, none_written, one_written}
use Rattle.canonical_proof.specs.Canonical.{stays, passed, applied, none_left, one_holds}
use Rattle.canonical_proof.specs.Lines.{Line}

module _ (theory : Theory) where
  -- where a premise fails, the next equations are tried
  asks_fail : (s : ℕ → TermTree) (ps : List Premise) (r : TermTree) (es : List ConditionalEquation) (f : ℕ) (vs : TermTrees) (v : TermTree)
      (k : ℕ) → OneFails theory s ps → Tries theory es f vs v k → (n : ℕ) × Asks theory ps r s es f vs v n
  asks_fail s [] r es f vs v k h t = absurd h
  asks_fail s (premise a b ∷ ps) r es f vs v k h t = by (λ g. asks_fail s ps r es f vs v k g t) h.0 h.1 h.2 h.3 h.4 h.5 h.6
    where
      by : (OneFails theory s ps → (n : ℕ) × Asks theory ps r s es f vs v n) → (w u : TermTree) (n m : ℕ) →
          Evaluates theory (instance s a) w n → Evaluates theory (instance s b) u m →
          ((w ≡ u → ⊥) ⊎ ((w ≡ u) × OneFails theory s ps)) → (c : ℕ) × Asks theory (premise a b ∷ ps) r s es f vs v c
      by later w u n m x y (inl differ) = (n + m + k, fails w u n m k x y differ t refl)
      by later w u n m x y (inr g) =
          let rest = later g.1 in
          let z = subst (λ c. Evaluates theory (instance s b) c m) (sym g.0) y in
          (n + m + rest.0, holds w n m rest.0 x z rest.1 refl)

  mutual
    pub evaluated : {t v : TermTree} {before after : List Line} → Writes theory t v before after → (n : ℕ) × Evaluates theory t v n
    evaluated (of_call vs middle x y) =
        let a = all_evaluated x in
        let b = call_evaluated y in
        (a.0 + b.0, called vs a.0 b.0 a.1 b.1 refl)

    pub all_evaluated : {ts vs : TermTrees} {before after : List Line} → WritesAll theory ts vs before after →
        (n : ℕ) × EvaluatesAll theory ts vs n
    all_evaluated (none_written e) = (0, none refl)
    all_evaluated (one_written middle x y) =
        let a = evaluated x in
        let b = all_evaluated y in
        (a.0 + b.0, more a.0 b.0 a.1 b.1 refl)

    call_evaluated : {number f : ℕ} {es : List ConditionalEquation} {vs : TermTrees} {v : TermTree} {before after : List Line} →
        WritesCall theory number es f vs v before after → (n : ℕ) × Tries theory es f vs v n
    call_evaluated (stays e k) = (0, final e refl)
    call_evaluated (passed (inl h) x) = let r = call_evaluated x in (r.0, unlike h r.1)
    call_evaluated (passed {e = e} {es = es} {f = f} {vs = vs} {v = v} (inr h) x) =
        let r = call_evaluated x in
        let q = asks_fail h.0 e.premises e.right es f vs v r.0 h.2 r.1 in
        (q.0, like h.0 h.1 q.1)
    call_evaluated (applied {e = e} {es = es} {f = f} {vs = vs} s m n g x y k) =
        let r = evaluated y in
        let q = premises_evaluated x e.right es f vs r.0 r.1 in
        (q.0, like s g q.1)

    premises_evaluated : {s : ℕ → TermTree} {ps : List Premise} {before after : List Line} → WritesPremises theory s ps before after →
        (r : TermTree) (es : List ConditionalEquation) (f : ℕ) (vs : TermTrees) {v : TermTree} (k : ℕ) →
        Evaluates theory (instance s r) v k → (n : ℕ) × Asks theory ps r s es f vs v n
    premises_evaluated (none_left e) r es f vs k h = (k + 1, used k h refl)
    premises_evaluated (one_holds w m n x y z) r es f vs k h =
        let a = evaluated x in
        let b = evaluated y in
        let c = premises_evaluated z r es f vs k h in
        (a.0 + b.0 + c.0, holds w a.0 b.0 c.0 a.1 b.1 c.1 refl)
