-- Calls whose uses are counted.
use Rattle.std.proofs.Common.{ℕ, ◌≡◌, ◌+◌, List, ◌∷◌, refl, sym, subst, arith, drop}
use Rattle.spec_core.specs.Lists.{Each}
use Rattle.spec_core.specs.Orthogonality.{HasNoLooseVariables}
use Rattle.spec_core.specs.Terms.{TermTree, TermTrees, variable, apply, no_terms, and_term, width, instance, instances}
use Rattle.spec_core.specs.Theories.{Premise, premise, ConditionalEquation, Theory, OccursInPremises}
use Rattle.spec_core.specs.Evaluation.{Evaluates, EvaluatesAll, called, none, more, EvaluationMeets, ArgumentsMeet, TriesMeet}
use Rattle.spec_core.specs.Evaluation.{its_value, in_arguments, in_call, first, later}
use Rattle.spec_core.proofs.OneValue.{one_value, one_values}
use Rattle.value_nodes.specs.Own.{IsOwnValue}
use Rattle.value_nodes.specs.Sizes.{IsTooLarge}
use Rattle.rewriter.specs.Machine.{Outcome, Evaluating, Trying, Asking, Deciding, Task, call, decide, plan, plan_all, top}
use Rattle.rewriter.specs.Machine.{OnCall, Keeps, ComesTo, AreCounted, AreCountedAfter}
use Rattle.rewriter.proofs.Moves.{keep_on, sided}
use Rattle.rewriter.proofs.Plans.{onto, taken, dropped, wide}

-- what the one comes to, so does the other, after as many uses in all
pub comes_back : {P Q : Outcome → Type 0} (a b : ℕ) → Keeps P a Q b → (w : TermTree) (c : ℕ) → ComesTo Q w c →
    (m : ℕ) × ComesTo P w m × (a + m ≡ b + c)
comes_back a b k w c q =
    let x = k.back w c q.value in
    (x.0, record { value = x.1; small = λ u p big. q.small u (k.large u big p) big; fits = q.fits }, x.2)

module _ (theory : Theory) where
  -- what is counted once the one has come to a value is counted once the other has
  pub counted_on : {P Q : Outcome → Type 0} (a b : ℕ) (todo : List Task) (vals : List TermTree) → Keeps P a Q b →
      AreCountedAfter theory P a todo vals → AreCountedAfter theory Q b todo vals
  counted_on a b todo vals k h w c q =
      let x = comes_back a b k w c q in
      subst (λ u. AreCounted theory u todo (w ∷ vals)) x.2 (h w x.0 x.1)

  -- an own value comes to itself
  pub own_comes : (t : TermTree) (c : ℕ) → IsOwnValue theory t c → ComesTo (Evaluating theory t) t c
  own_comes t c own = record {
    value = own.evaluates;
    small = own.small;
    fits = λ big. own.small t (its_value own.evaluates) big;
  }

  -- arguments evaluate to these values after so many uses, and meet nothing too large
  pub record AllCome (ts vs : TermTrees) (n : ℕ) : Type 0 where
    pub values : EvaluatesAll theory ts vs n
    pub small : (u : TermTree) → ArgumentsMeet theory ts u → IsTooLarge u → ⊥

  none_come : AllCome no_terms no_terms 0
  none_come = record { values = none refl; small = λ u m big. nothing m refl }
    where
      nothing : {ts : TermTrees} {u : TermTree} → ArgumentsMeet theory ts u → ts ≡ no_terms → ⊥
      nothing (first m) e = let n : ⊥ = cc in n
      nothing (later p m) e = let n : ⊥ = cc in n

  more_come : (t v : TermTree) (ts vs : TermTrees) (c n : ℕ) → ComesTo (Evaluating theory t) v c → AllCome ts vs n →
      AllCome (and_term t ts) (and_term v vs) (c + n)
  more_come t v ts vs c n p all = record {
    values = more c n p.value all.values refl;
    small = λ u m big. one_of m refl big;
  }
    where
      one_of : {us : TermTrees} {u : TermTree} → ArgumentsMeet theory us u → us ≡ and_term t ts → IsTooLarge u → ⊥
      one_of {u = u} (first {t = r} m) e big =
          let is : r ≡ t = cc in
          p.small u (subst (λ x. EvaluationMeets theory x u) is m) big
      one_of {u = u} (later {ts = rs} q m) e big =
          let is : rs ≡ ts = cc in
          all.small u (subst (λ x. ArgumentsMeet theory x u) is m) big

  module _ (tights : Each HasNoLooseVariables theory.equations) where
    -- a term comes to what the call over its arguments' values comes to
    call_comes : (f : ℕ) (ts vs : TermTrees) (w : TermTree) (n c : ℕ) → AllCome ts vs n →
        ComesTo (Trying theory theory.equations f vs) w c → ComesTo (Evaluating theory (apply f ts)) w (n + c)
    call_comes f ts vs w n c all p = record { value = whole; small = λ u m big. met m refl big; fits = p.fits }
      where
        whole : Evaluates theory (apply f ts) w (n + c)
        whole = called vs n c all.values p.value refl

        met : {t u : TermTree} → EvaluationMeets theory t u → t ≡ apply f ts → IsTooLarge u → ⊥
        met {t} {u} (its_value {n = k} e) q big =
            let is : w ≡ u = (one_value theory tights whole (subst (λ x. Evaluates theory x u k) q e)).0 in
            p.fits (subst IsTooLarge (sym is) big)
        met {u = u} (in_arguments {ts = us} m) q big =
            let is : us ≡ ts = cc in
            all.small u (subst (λ x. ArgumentsMeet theory x u) is m) big
        met {u = u} (in_call {f = g} {ts = us} {vs = xs} {n = k} a m) q big =
            let head : g ≡ f = cc in
            let is : us ≡ ts = cc in
            let same : vs ≡ xs = (one_values theory tights all.values (subst (λ x. EvaluatesAll theory x xs k) is a)).0 in
            p.small u (subst (λ x. TriesMeet theory theory.equations x vs u) head
            (subst (λ x. TriesMeet theory theory.equations g x u) (sym same) m)) big

    module _ (s : ℕ → TermTree) where
      mutual
        -- what is counted once a term has come to its value is counted before its tasks
        pub counted_plan : (t : TermTree) (todo : List Task) (vals : List TermTree) (uses : ℕ) →
            AreCountedAfter theory (Evaluating theory (instance s t)) uses todo vals → AreCounted theory uses (plan s t todo) vals
        counted_plan (variable x) todo vals uses h = h
        counted_plan (apply f ts) todo vals uses h =
            counted_plans ts (call f (width ts) ∷ todo) vals uses (λ ws k all. at_call ws k all)
          where
            at_call : (ws : TermTrees) (k : ℕ) → AllCome (instances s ts) ws k →
                AreCounted theory (uses + k) (call f (width ts) ∷ todo) (onto ws vals)
            at_call ws k all w c p =
                let g = wide theory s ts ws k all.values in
                let q = subst (λ us. ComesTo (Trying theory theory.equations f us) w c) (taken ws ts vals g) p in
                let r = h w (k + c) (call_comes f (instances s ts) ws w k c all q) in
                let e : uses + (k + c) ≡ uses + k + c = omega arith in
                subst (λ us. AreCounted theory (uses + k + c) todo (w ∷ us)) (sym (dropped ws ts vals g))
                (subst (λ i. AreCounted theory i todo (w ∷ vals)) e r)

        pub counted_plans : (ts : TermTrees) (todo : List Task) (vals : List TermTree) (uses : ℕ) →
            ((ws : TermTrees) (k : ℕ) → AllCome (instances s ts) ws k → AreCounted theory (uses + k) todo (onto ws vals)) →
            AreCounted theory uses (plan_all s ts todo) vals
        counted_plans no_terms todo vals uses h =
            let e : uses + 0 ≡ uses = omega arith in
            subst (λ i. AreCounted theory i todo vals) e (h no_terms 0 none_come)
        counted_plans (and_term t ts) todo vals uses h =
            counted_plan t (plan_all s ts todo) vals uses
            (λ w c p. counted_plans ts todo (w ∷ vals) (uses + c)
            (λ ws k all.
            let e : uses + (c + k) ≡ uses + c + k = omega arith in
            subst (λ i. AreCounted theory i todo (onto ws (w ∷ vals))) e
            (h (and_term w ws) (c + k) (more_come (instance s t) w (instances s ts) ws c k p all))))

    -- a premise is asked of an equation that matches
    module _ (e : ConditionalEquation) (a b : TermTree) (ps : List Premise) (s : ℕ → TermTree) (es : List ConditionalEquation) (f : ℕ)
        (pats vs : TermTrees) (todo : List Task) (vals : List TermTree) (start uses : ℕ) (left : e.left ≡ apply f pats)
        (over : vs ≡ top (width pats) vals no_terms) (fit : instance s e.left ≡ apply f vs) (tight : HasNoLooseVariables e)
        (inside : (x : ℕ) → OccursInPremises x (premise a b ∷ ps) → OccursInPremises x e.premises)
        (begun : Keeps (Trying theory theory.equations f vs) start (Asking theory (premise a b ∷ ps) e.right s es f vs) uses)
        (counted : AreCountedAfter theory (Asking theory (premise a b ∷ ps) e.right s es f vs) uses todo (drop (width pats) vals)) where
      -- the call is decided, once both sides have come to their values
      decided : (x y : TermTree) (i j : ℕ) → ComesTo (Evaluating theory (instance s a)) x i →
          ComesTo (Evaluating theory (instance s b)) y j →
          AreCounted theory (uses + i + j) (decide e ps es start ∷ todo) (y ∷ x ∷ vals)
      decided x y i j p q =
          let k = sided theory tights e a b ps s es f vs fit tight inside x y i j uses p q in
          subst (λ t. OnCall t (λ f pats.
          Keeps (Trying theory theory.equations f (top (width pats) vals no_terms)) start
          (Deciding theory e ps es f (top (width pats) vals no_terms) x y) (uses + i + j) ×
          AreCountedAfter theory (Deciding theory e ps es f (top (width pats) vals no_terms) x y) (uses + i + j) todo
          (drop (width pats) vals))) (sym left)
          (subst (λ us. Keeps (Trying theory theory.equations f us) start (Deciding theory e ps es f us x y) (uses + i + j) ×
          AreCountedAfter theory (Deciding theory e ps es f us x y) (uses + i + j) todo (drop (width pats) vals)) over
          (keep_on start uses (uses + i + j) begun k, counted_on uses (uses + i + j) todo (drop (width pats) vals) k counted))

      pub counted_asks : AreCounted theory uses (plan s a (plan s b (decide e ps es start ∷ todo))) vals
      counted_asks =
          counted_plan s a (plan s b (decide e ps es start ∷ todo)) vals uses
          (λ x i p. counted_plan s b (decide e ps es start ∷ todo) (x ∷ vals) (uses + i) (λ y j q. decided x y i j p q))
