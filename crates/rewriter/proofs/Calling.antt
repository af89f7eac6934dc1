-- A call in its middle, counted.
use Rattle.std.proofs.Common.{ℕ, suc, ◌≡◌, ◌+◌, ◌<◌, ◌≤◌, List, [], ◌∷◌, length, map, drop, refl, sym, ap, subst, ◌∙◌, arith}
use Rattle.std.proofs.lemmas.List.{drop_all}
use Rattle.spec_core.specs.Lists.{Each}
use Rattle.spec_core.specs.Orthogonality.{HasPatterns}
use Rattle.spec_core.specs.Terms.{TermTree, apply, no_terms, width, instance}
use Rattle.spec_core.specs.Theories.{premise, ConditionalEquation, Theory, OccursInPremises}
use Rattle.spec_core.specs.Evaluation.{final, TriesMeet, passed_over, asked}
use Rattle.spec_core.specs.Executable.{IsExecutable}
use Rattle.data_laws.proofs.Exists.{width_instances}
use Rattle.value_nodes.specs.declared.node.Node.{Node}
use Rattle.value_nodes.specs.Nodes.{tree_at, IsNode, IsLonger, AreSmall}
use Rattle.value_nodes.specs.Own.{AreOwnValues, StaysOver}
use Rattle.value_nodes.specs.Sizes.{IsTooLarge}
use Rattle.rewriter.specs.declared.step.Step.{Step}
use Rattle.rewriter.specs.declared.step.Step.TheVariants.{Call, Decide}
use Rattle.spec_core.specs.declared.items.Op.{Op}
use Rattle.rewriter.specs.Machine.{Outcome, Trying, Asking, Deciding, plan, top, OnCall, Keeps}
use Rattle.rewriter.specs.Machine.{AreCounted, AreCountedAfter}
use Rattle.rewriter.specs.Steps.{equation_at, put_by, task_of, IsStep, IsMatch}
use Rattle.rewriter.specs.Runs.{IsReady}
use Rattle.rewriter.specs.Calls.{arguments_of, IsCallOf, ArePlanned, Left, Asked, Judged, IsCalling}
use Rattle.rewriter.proofs.Arities.{left_arity}
use Rattle.rewriter.proofs.Calls.{at_place, tight_at, left_asked, skips, still_steps, same_tasks, still_occurs, head_of_match}
use Rattle.rewriter.proofs.Counted.{counted_on, counted_plan, counted_asks}
use Rattle.rewriter.proofs.Following.{all_held}
use Rattle.rewriter.proofs.Moves.{keep_on, used_once}
use Rattle.rewriter.proofs.Tops.{top_width}
use Rattle.rewriter.proofs.Turns.{alike_asks, unalike_tries}

module _ (theory : Theory) where
  -- what is left of a call may be exchanged for what it comes to
  pub calling_on : {P Q : Outcome → Type 0} (rows : List Node) (f k start : ℕ) (todo : List Step) (there : List ℕ) (a b : ℕ) →
      Keeps P a Q b → IsCalling theory rows f k start P todo there a → IsCalling theory rows f k start Q todo there b
  calling_on rows f k start todo there a b h c = record {
    steps = c.steps;
    values = c.values;
    own = c.own;
    small = c.small;
    arity = c.arity;
    begun = keep_on start a b c.begun h;
    counted = counted_on theory a b (map (task_of theory rows) todo) (drop k (map (tree_at rows) there)) h c.counted;
  }

  -- equations that don't match are passed over
  pub calling_skips : (rows : List Node) (f k start from place : ℕ) (todo : List Step) (there : List ℕ) (uses : ℕ) → from ≤ place →
      ((j : ℕ) → from ≤ j → j < place → j < length theory.equations → (s : ℕ → TermTree) →
      instance s (equation_at theory j).left ≡ apply f (arguments_of rows k there) → ⊥) →
      IsCalling theory rows f k start (Left theory rows from f k there) todo there uses →
      IsCalling theory rows f k start (Left theory rows place f k there) todo there uses
  calling_skips rows f k start from place todo there uses l h c =
      let q = skips theory f (arguments_of rows k there) uses theory.equations from place l h in
      calling_on rows f k start todo there uses uses (record { back = q.back; on = q.on; met = q.met; large = q.large }) c

  -- where the machine is ready for a call, it is in the call, with all equations left
  pub begins_call : (rows : List Node) (op : Op) (k : ℕ) (todo : List Step) (there : List ℕ) (uses : ℕ) →
      IsReady theory rows (Call op k ∷ todo) there uses →
      IsCalling theory rows op.0 k uses (Left theory rows 0 op.0 k there) todo there uses
  begins_call rows op k todo there uses r = record {
    steps = r.steps.1;
    values = r.values;
    own = r.own;
    small = r.small;
    arity = r.steps.0;
    begun = record { back = λ v n p. (n, p, refl); on = λ v n p. (n, p, refl); met = λ w p. p; large = λ w b p. p };
    counted = r.counted;
  }

  module _ (rows : List Node) (f k start place : ℕ) (todo : List Step) (there : List ℕ) (uses : ℕ)
      (none : length theory.equations ≤ place)
      (c : IsCalling theory rows f k start (Left theory rows place f k there) todo there uses) where
    -- where no equation is left, the call stays, and has cost what was counted since it began
    last : IsCalling theory rows f k start (Trying theory [] f (arguments_of rows k there)) todo there uses
    last = subst (λ es. IsCalling theory rows f k start (Trying theory es f (arguments_of rows k there)) todo there uses)
        (drop_all place theory.equations none)
        (record { steps = c.steps; values = c.values; own = c.own; small = c.small; arity = c.arity; begun = c.begun; counted = c.counted })

    nothing_met : {u : TermTree} {es : List ConditionalEquation} → TriesMeet theory es f (arguments_of rows k there) u → es ≡ [] → ⊥
    nothing_met (passed_over h t) e = let n : ⊥ = cc in n
    nothing_met (asked s q t) e = let n : ⊥ = cc in n

    pub calling_stays : (m : ℕ) × (start + m ≡ uses) × StaysOver theory f (arguments_of rows k there) m
    calling_stays =
        let x = last.begun.back (apply f (arguments_of rows k there)) 0 (final refl refl) in (
          x.0,
          omega (arith, x.2),
          record { tries = x.1; small = λ w m big. nothing_met (last.begun.large w big m) refl },
        )

    -- with its node in the place of the arguments, the machine is ready
    pub calling_built : (new : List Node) (after : List ℕ) → IsLonger rows new → Each (IsNode new) after → AreOwnValues theory new →
        AreSmall new → (IsTooLarge (apply f (arguments_of rows k there)) → ⊥) →
        map (tree_at new) after ≡ apply f (arguments_of rows k there) ∷ drop k (map (tree_at rows) there) →
        IsReady theory new todo after uses
    calling_built new after longer nodes own small fits built = record {
      steps = still_steps theory rows new longer todo c.steps;
      values = nodes;
      own = own;
      small = small;
      counted =
          let h = last.counted (apply f (arguments_of rows k there)) 0
          (record { value = final refl refl; small = λ u m big. nothing_met m refl; fits = fits }) in
          let e : uses + 0 ≡ uses = omega arith in
          let i = subst (λ n. AreCounted theory n (map (task_of theory rows) todo)
          (apply f (arguments_of rows k there) ∷ drop k (map (tree_at rows) there))) e h in
          let j = subst (λ tasks. AreCounted theory uses tasks
          (apply f (arguments_of rows k there) ∷ drop k (map (tree_at rows) there)))
          (sym (same_tasks theory rows new longer todo (all_held theory rows todo c.steps))) i in
          subst (AreCounted theory uses (map (task_of theory new) todo)) (sym built) j;
    }

  module _ (ex : IsExecutable theory) where
    -- an equation that matches is asked
    pub calling_asked : (rows : List Node) (bound : List ℕ) (f k start place : ℕ) (todo : List Step) (there : List ℕ) (uses : ℕ) →
        place < length theory.equations →
        IsMatch rows bound (equation_at theory place).left (apply f (arguments_of rows k there)) →
        IsCalling theory rows f k start (Left theory rows place f k there) todo there uses →
        IsCalling theory rows f k start (Asked theory rows bound place 0 f k there) todo there uses
    calling_asked rows bound f k start place todo there uses h m c =
        calling_on rows f k start todo there uses uses (left_asked theory ex rows place f k todo there bound uses h m) c

    module _ (rows : List Node) (bound : List ℕ) (f k start place next : ℕ) (todo : List Step) (there : List ℕ) (uses : ℕ)
        (h : place < length theory.equations)
        (m : IsMatch rows bound (equation_at theory place).left (apply f (arguments_of rows k there)))
        (c : IsCalling theory rows f k start (Asked theory rows bound place next f k there) todo there uses) where
      -- a premise is asked
      pub calling_asks : (new : List Step) → ArePlanned theory rows bound place next start todo new → Each (IsStep theory rows) new →
          IsReady theory rows new there uses
      calling_asks new p steps = record {
        steps = steps;
        values = c.values;
        own = c.own;
        small = c.small;
        counted =
            let e = equation_at theory place in
            let s = put_by rows bound in
            let es = drop (suc place) theory.equations in
            let vs = arguments_of rows k there in
            let vals = map (tree_at rows) there in
            let tasks = map (task_of theory rows) todo in
            let shape = at_place (HasPatterns theory) theory.equations place ex.orthogonal.patterns h in
            let hd = head_of_match s f shape.0 shape.1 vs e.left shape.2 m.fits in
            let w : width vs ≡ width shape.1 = ap width (sym hd.1) ∙ width_instances s shape.1 in
            let t = top_width k (width shape.1) vals w in
            let inside : (x : ℕ) → OccursInPremises x (premise p.left p.right ∷ drop (next + 1) e.premises) →
            OccursInPremises x e.premises = λ x o. still_occurs x next e.premises (subst (OccursInPremises x) (sym p.asks) o) in
            let begun = subst (λ ps. Keeps (Trying theory theory.equations f vs) start (Asking theory ps e.right s es f vs) uses)
            p.asks (record { back = c.begun.back; on = c.begun.on; met = c.begun.met; large = c.begun.large }) in
            let counted = subst (λ ps. AreCountedAfter theory (Asking theory ps e.right s es f vs) uses tasks (drop k vals))
            p.asks c.counted in
            let q = counted_asks theory ex.orthogonal.closed e p.left p.right (drop (next + 1) e.premises) s es f shape.1 vs tasks vals
            start uses hd.0 t.0 m.fits (tight_at theory ex place h) inside begun
            (subst (AreCountedAfter theory
            (Asking theory (premise p.left p.right ∷ drop (next + 1) e.premises) e.right s es f vs) uses tasks) t.1 counted) in
            subst (λ todo. AreCounted theory uses todo vals) (sym p.steps) q;
      }

      -- the equation is used
      pub calling_uses : (new : List Step) (after : List ℕ) → length (equation_at theory place).premises ≤ next →
          map (task_of theory rows) new ≡ plan (put_by rows bound) (equation_at theory place).right (map (task_of theory rows) todo) →
          map (tree_at rows) after ≡ drop k (map (tree_at rows) there) → Each (IsStep theory rows) new → Each (IsNode rows) after →
          IsReady theory rows new after (uses + 1)
      calling_uses new after n planned vals steps nodes = record {
        steps = steps;
        values = nodes;
        own = c.own;
        small = c.small;
        counted =
            let e = equation_at theory place in
            let s = put_by rows bound in
            let es = drop (suc place) theory.equations in
            let vs = arguments_of rows k there in
            let tasks = map (task_of theory rows) todo in
            let rest = drop k (map (tree_at rows) there) in
            let before = subst (λ ps. AreCountedAfter theory (Asking theory ps e.right s es f vs) uses tasks rest)
            (drop_all next e.premises n) c.counted in
            let right = counted_on theory uses (uses + 1) tasks rest (used_once theory e.right s es f vs uses) before in
            let q = counted_plan theory ex.orthogonal.closed s e.right tasks rest (uses + 1) right in
            subst (λ todo. AreCounted theory (uses + 1) todo (map (tree_at rows) after)) (sym planned)
            (subst (AreCounted theory (uses + 1) (plan s e.right tasks)) (sym vals) q);
      }

    module _ (rows : List Node) (f k start place next : ℕ) (todo : List Step) (a b : TermTree) (there : List ℕ) (uses : ℕ)
        (h : place < length theory.equations) where
      -- where the machine is ready to decide a premise, it is in the middle of a call
      pub decides_call : (left right : ℕ) (before mid : List ℕ) → before ≡ right ∷ mid → mid ≡ left ∷ there → IsCallOf theory place f k →
          tree_at rows left ≡ a → tree_at rows right ≡ b →
          IsReady theory rows (Decide place next start ∷ todo) before uses →
          IsCalling theory rows f k start (Judged theory rows place next f k a b there) todo there uses
      decides_call left right before mid e q head la rb r =
          let all = e ∙ ap (λ vs. right ∷ vs) q in
          let nodes = subst (Each (IsNode rows)) all r.values in
          let counted = subst (λ vs. AreCounted theory uses (map (task_of theory rows) (Decide place next start ∷ todo))
          (map (tree_at rows) vs)) all r.counted in
          let vals = map (tree_at rows) there in
          let eq = equation_at theory place in
          let ps = drop next eq.premises in
          let es = drop (suc place) theory.equations in
          let tasks = map (task_of theory rows) todo in
          let at_head = subst (λ t. OnCall t (λ f pats.
          Keeps (Trying theory theory.equations f (top (width pats) vals no_terms)) start
          (Deciding theory eq ps es f (top (width pats) vals no_terms) (tree_at rows left) (tree_at rows right)) uses ×
          AreCountedAfter theory (Deciding theory eq ps es f (top (width pats) vals no_terms) (tree_at rows left) (tree_at rows right))
          uses tasks (drop (width pats) vals))) head.1 counted in
          let at_count = subst (λ i.
          Keeps (Trying theory theory.equations f (top i vals no_terms)) start
          (Deciding theory eq ps es f (top i vals no_terms) (tree_at rows left) (tree_at rows right)) uses ×
          AreCountedAfter theory (Deciding theory eq ps es f (top i vals no_terms) (tree_at rows left) (tree_at rows right))
          uses tasks (drop i vals)) (sym head.2) at_head in
          let at_a = subst (λ x.
          Keeps (Trying theory theory.equations f (top k vals no_terms)) start
          (Deciding theory eq ps es f (top k vals no_terms) x (tree_at rows right)) uses ×
          AreCountedAfter theory (Deciding theory eq ps es f (top k vals no_terms) x (tree_at rows right)) uses tasks (drop k vals))
          la at_count in
          let at_b = subst (λ y.
          Keeps (Trying theory theory.equations f (top k vals no_terms)) start
          (Deciding theory eq ps es f (top k vals no_terms) a y) uses ×
          AreCountedAfter theory (Deciding theory eq ps es f (top k vals no_terms) a y) uses tasks (drop k vals)) rb at_a in
          record {
            steps = r.steps.1;
            values = nodes.1.1;
            own = r.own;
            small = r.small;
            arity = left_arity theory ex place h f k head;
            begun = record { back = at_b.0.back; on = at_b.0.on; met = at_b.0.met; large = at_b.0.large };
            counted = at_b.1;
          }

      -- the two values are equal: the next premises are left
      pub calling_holds : (bound : List ℕ) →
          IsMatch rows bound (equation_at theory place).left (apply f (arguments_of rows k there)) → a ≡ b →
          IsCalling theory rows f k start (Judged theory rows place next f k a b there) todo there uses →
          IsCalling theory rows f k start (Asked theory rows bound place next f k there) todo there uses
      calling_holds bound m alike c =
          let e = equation_at theory place in
          let q = alike_asks theory e (drop next e.premises) (drop (suc place) theory.equations) f (arguments_of rows k there) a b
          (put_by rows bound) uses m.fits (tight_at theory ex place h) (λ x o. still_occurs x next e.premises o) alike in
          calling_on rows f k start todo there uses uses (record { back = q.back; on = q.on; met = q.met; large = q.large }) c

      -- they differ: the next equations are left
      pub calling_fails : (a ≡ b → ⊥) →
          IsCalling theory rows f k start (Judged theory rows place next f k a b there) todo there uses →
          IsCalling theory rows f k start (Left theory rows (suc place) f k there) todo there uses
      calling_fails differ c =
          let e = equation_at theory place in
          let q = unalike_tries theory e (drop next e.premises) (drop (suc place) theory.equations) f (arguments_of rows k there) a b
          uses differ in
          calling_on rows f k start todo there uses uses (record { back = q.back; on = q.on; met = q.met; large = q.large }) c
