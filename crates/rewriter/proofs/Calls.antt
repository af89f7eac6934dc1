-- A call's equations, premises and uses, over the machine's steps.
use Rattle.std.proofs.Common.{ℕ, zero, suc, ◌≡◌, ◌+◌, ◌<◌, ◌≤◌, List, [], ◌∷◌, length, map, drop, slice_index_or, refl, sym, ap, subst}
use Rattle.std.proofs.Common.{◌∙◌, arith, inl, inr, ◌⊎◌}
use Rattle.std.proofs.lemmas.List.{drop_all, length-map}
use Rattle.spec_core.specs.declared.term.Term.{Term}
use Rattle.spec_core.specs.declared.equation.Equation.{Equation}
use Rattle.spec_core.specs.declared.equation.DataSpec.{DataSpec}
use Rattle.spec_core.specs.Lists.{Each}
use Rattle.spec_core.specs.Terms.{TermTree, TermTrees, variable, apply, no_terms, width, instance, instances, Occurs, term_of}
use Rattle.spec_core.specs.Theories.{Premise, premise, ConditionalEquation, Theory, Heads, OccursInPremises, premise_of, equation_of}
use Rattle.spec_core.specs.Theories.{theory_of}
use Rattle.spec_core.specs.Orthogonality.{HasNoLooseVariables, HasPatterns, IsLinear}
use Rattle.spec_core.specs.Executable.{IsExecutable}
use Rattle.data_laws.proofs.Exists.{width_instances}
use Rattle.value_nodes.specs.declared.node.Node.{Node}
use Rattle.rewriter.specs.declared.step.Step.{Step}
use Rattle.rewriter.specs.declared.step.Step.TheVariants.{Put, Call, Decide}
use Rattle.value_nodes.specs.Nodes.{tree_at, IsNode, IsLonger}
use Rattle.value_nodes.specs.Sizes.{IsTooLarge}
use Rattle.rewriter.specs.Machine.{gives, meets, Trying, Asking, Deciding, Through, put, call, decide, plan, top, Comes, Keeps, Exceeds}
use Rattle.rewriter.specs.Steps.{IsHeld, no_equation, equation_at, bound_at, put_by, task_of, IsStep, IsMatch}
use Rattle.rewriter.specs.Runs.{Coming, MeetsLarge}
use Rattle.rewriter.specs.Calls.{arguments_of, Pending, Wanting, IsCallOf, ArePlanned, Decided, Choosing, Left, Asked}
use Rattle.rewriter.proofs.Plans.{planned}
use Rattle.rewriter.proofs.Moves.{same, keep_on, through, passed, matched, used_once, spent, stayed, stayed_met, asks}
use Rattle.rewriter.proofs.Turns.{opened, decided_alike, decided_unalike}
use Rattle.rewriter.proofs.Tops.{top_width}
use Rattle.rewriter.proofs.Following.{all_held}

pub at_place : (P : ConditionalEquation → Type 0) (es : List ConditionalEquation) (i : ℕ) → Each P es → i < length es →
    P (slice_index_or es i no_equation)
at_place P [] i e h = absurd (omega arith)
at_place P (x ∷ es) zero e h = e.0
at_place P (x ∷ es) (suc i) e h = at_place P es i e.1 (omega arith)

pub split_at : {A : Type 0} (xs : List A) (i : ℕ) (d : A) → i < length xs → drop i xs ≡ slice_index_or xs i d ∷ drop (suc i) xs
split_at [] i d h = absurd (omega arith)
split_at (x ∷ xs) zero d h = refl
split_at (x ∷ xs) (suc i) d h = split_at xs i d (omega arith)

pub mapped_at : {A B : Type 0} (f : A → B) (xs : List A) (i : ℕ) (x : A) (d : B) → i < length xs → x ≡ slice_index_or xs i x →
    slice_index_or (map f xs) i d ≡ f x
mapped_at f [] i x d h e = absurd (omega arith)
mapped_at f (y ∷ xs) zero x d h e = ap f (sym e)
mapped_at f (y ∷ xs) (suc i) x d h e = mapped_at f xs i x d (omega arith) e

pub still_occurs : (x n : ℕ) (ps : List Premise) → OccursInPremises x (drop n ps) → OccursInPremises x ps
still_occurs x zero ps o = o
still_occurs x (suc n) [] o = o
still_occurs x (suc n) (premise a b ∷ ps) o = inr (inr (still_occurs x n ps o))

pub counted : (d : DataSpec) → length (theory_of d).equations ≡ length d.equations.items
counted d = length-map d.equations.items equation_of

pub indexed : (xs : List ℕ) (i r d : ℕ) → i < length xs → r ≡ slice_index_or xs i r → r ≡ slice_index_or xs i d
indexed [] i r d h e = absurd (omega arith)
indexed (x ∷ xs) zero r d h e = e
indexed (x ∷ xs) (suc i) r d h e = indexed xs i r d (omega arith) e

pub by_default : (xs : List ℕ) (i d : ℕ) → length xs ≤ i → slice_index_or xs i d ≡ d
by_default [] zero d h = refl
by_default [] (suc i) d h = refl
by_default (x ∷ xs) zero d h = absurd (omega arith)
by_default (x ∷ xs) (suc i) d h = by_default xs i d (omega arith)

-- what the number of a premise tells
pub premise_at : (t : ConditionalEquation) (e : Equation) (next : ℕ) (sides : Term × Term) → equation_of e ≡ t →
    next < length e.premises.items → sides ≡ slice_index_or e.premises.items next sides →
    drop next t.premises ≡ premise (term_of sides.0) (term_of sides.1) ∷ drop (next + 1) t.premises
premise_at t e next sides q h is =
    let ps = map premise_of e.premises.items in
    let l : next < length ps = omega (arith, h, length-map e.premises.items premise_of) in
    let i : suc next ≡ next + 1 = omega arith in
    let d : drop next ps ≡ premise_of sides ∷ drop (next + 1) ps =
    split_at ps next (premise_of sides) l ∙ ap (λ p. p ∷ drop (suc next) ps)
    (mapped_at premise_of e.premises.items next sides (premise_of sides) h is) ∙ ap (λ j. premise_of sides ∷ drop j ps) i in
    subst (λ u. drop next u.premises ≡ premise (term_of sides.0) (term_of sides.1) ∷ drop (next + 1) u.premises) q d

pub side_occurs : (x next : ℕ) (a b : TermTree) (qs ps : List Premise) → drop next ps ≡ premise a b ∷ qs → Occurs x a ⊎ Occurs x b →
    OccursInPremises x ps
side_occurs x next a b qs ps e (inl o) = still_occurs x next ps (subst (OccursInPremises x) (sym e) (inl o))
side_occurs x next a b qs ps e (inr o) = still_occurs x next ps (subst (OccursInPremises x) (sym e) (inr (inl o)))

pub head_of_match : (s : ℕ → TermTree) (f g : ℕ) (ps vs : TermTrees) (t : TermTree) → t ≡ apply g ps → instance s t ≡ apply f vs →
    (t ≡ apply f ps) × (instances s ps ≡ vs)
head_of_match s f g ps vs t e q =
    let k : apply g (instances s ps) ≡ apply f vs = ap (instance s) (sym e) ∙ q in
    let h : g ≡ f = cc in
    let i : instances s ps ≡ vs = cc in
    (e ∙ ap (λ j. apply j ps) h, i)

pub still_steps : (theory : Theory) (old new : List Node) → IsLonger old new → (todo : List Step) → Each (IsStep theory old) todo →
    Each (IsStep theory new) todo
still_steps theory old new h [] e = tt
still_steps theory old new h (Put i ∷ todo) e = (omega (arith, h.at_least, e.0), still_steps theory old new h todo e.1)
still_steps theory old new h (Call op k ∷ todo) e = (e.0, still_steps theory old new h todo e.1)
still_steps theory old new h (Decide i k start ∷ todo) e = (e.0, still_steps theory old new h todo e.1)

pub still_held : (old new : List Node) → IsLonger old new → (todo : List Step) → Each (IsHeld old) todo → Each (IsHeld new) todo
still_held old new h [] e = tt
still_held old new h (Put i ∷ todo) e = (omega (arith, h.at_least, e.0), still_held old new h todo e.1)
still_held old new h (Call op k ∷ todo) e = (tt, still_held old new h todo e.1)
still_held old new h (Decide i k start ∷ todo) e = (tt, still_held old new h todo e.1)

pub same_tasks : (theory : Theory) (old new : List Node) → IsLonger old new → (todo : List Step) → Each (IsHeld old) todo →
    map (task_of theory new) todo ≡ map (task_of theory old) todo
same_tasks theory old new h [] e = refl
same_tasks theory old new h (Put i ∷ todo) e =
    let a = h.same i e.0 in
    let b = same_tasks theory old new h todo e.1 in
    ap (λ t. put t ∷ map (task_of theory new) todo) a ∙ ap (λ ts. put (tree_at old i) ∷ ts) b
same_tasks theory old new h (Call op k ∷ todo) e = ap (λ ts. call op.0 k ∷ ts) (same_tasks theory old new h todo e.1)
same_tasks theory old new h (Decide i k start ∷ todo) e = ap (λ ts. task_of theory new (Decide i k start) ∷ ts) (same_tasks theory old new h todo e.1)

module _ (theory : Theory) where
  pub skips : (f : ℕ) (vs : TermTrees) (a : ℕ) (es : List ConditionalEquation) (from place : ℕ) → from ≤ place →
      ((j : ℕ) → from ≤ j → j < place → j < length es → (s : ℕ → TermTree) →
      instance s (slice_index_or es j no_equation).left ≡ apply f vs → ⊥) →
      Keeps (Trying theory (drop from es) f vs) a (Trying theory (drop place es) f vs) a
  skips f vs a [] zero zero l h = same a
  skips f vs a [] zero (suc place) l h = same a
  skips f vs a [] (suc from) zero l h = same a
  skips f vs a [] (suc from) (suc place) l h = same a
  skips f vs a (e ∷ es) zero zero l h = same a
  skips f vs a (e ∷ es) zero (suc place) l h =
      keep_on a a a (passed theory e es f vs a (h 0 (omega arith) (omega arith) (omega arith)))
      (skips f vs a es zero place (omega arith) (λ j p q r. h (suc j) (omega arith) (omega (arith, q)) (omega (arith, r))))
  skips f vs a (e ∷ es) (suc from) zero l h = absurd (omega (arith, l))
  skips f vs a (e ∷ es) (suc from) (suc place) l h =
      skips f vs a es from place (omega (arith, l)) (λ j p q r. h (suc j) (omega (arith, p)) (omega (arith, q)) (omega (arith, r)))

  -- equations that don't match are passed over
  pub pending_skips : (rows : List Node) (from place f k : ℕ) (todo : List Step) (there : List ℕ) (uses : ℕ) → from ≤ place →
      ((j : ℕ) → from ≤ j → j < place → j < length theory.equations → (s : ℕ → TermTree) →
      instance s (equation_at theory j).left ≡ apply f (arguments_of rows k there) → ⊥) →
      Keeps (Pending theory rows from f k todo there) uses (Pending theory rows place f k todo there) uses
  pending_skips rows from place f k todo there uses l h =
      again (through (λ w. Comes theory (map (task_of theory rows) todo) (w ∷ drop k (map (tree_at rows) there))) uses uses
      (skips f (arguments_of rows k there) uses theory.equations from place l h))
    where
      again : Keeps (Through (Trying theory (drop from theory.equations) f (arguments_of rows k there))
          (λ w. Comes theory (map (task_of theory rows) todo) (w ∷ drop k (map (tree_at rows) there)))) uses
          (Through (Trying theory (drop place theory.equations) f (arguments_of rows k there))
          (λ w. Comes theory (map (task_of theory rows) todo) (w ∷ drop k (map (tree_at rows) there)))) uses →
          Keeps (Pending theory rows from f k todo there) uses (Pending theory rows place f k todo there) uses
      again q = record { back = q.back; on = q.on; met = q.met; large = q.large }

  module _ (ex : IsExecutable theory) where
    pub tight_at : (place : ℕ) → place < length theory.equations → HasNoLooseVariables (equation_at theory place)
    tight_at place h = at_place HasNoLooseVariables theory.equations place ex.orthogonal.closed h

    pub linear_at : (place : ℕ) → place < length theory.equations → IsLinear (equation_at theory place).left
    linear_at place h = at_place (λ e. IsLinear e.left) theory.equations place ex.orthogonal.linear h

    -- the operation of what matches heads the equation
    pub match_heads : (place f : ℕ) (vs : TermTrees) (s : ℕ → TermTree) → place < length theory.equations →
        instance s (equation_at theory place).left ≡ apply f vs → Heads f (equation_at theory place)
    match_heads place f vs s h q =
        let p = at_place (HasPatterns theory) theory.equations place ex.orthogonal.patterns h in
        let m = head_of_match s f p.0 p.1 vs (equation_at theory place).left p.2 q in
        (p.1, m.0)

    pub no_variable_heads : (place x : ℕ) → place < length theory.equations → (equation_at theory place).left ≡ variable x → ⊥
    no_variable_heads place x h q =
        let p = at_place (HasPatterns theory) theory.equations place ex.orthogonal.patterns h in
        let c : variable x ≡ apply p.0 p.1 = sym q ∙ p.2 in
        let n : ⊥ = cc in n

    module _ (rows : List Node) (place f k : ℕ) (todo : List Step) (there : List ℕ) where
      -- an equation that matches is asked
      pub left_asked : (bound : List ℕ) (uses : ℕ) → place < length theory.equations →
          IsMatch rows bound (equation_at theory place).left (apply f (arguments_of rows k there)) →
          Keeps (Left theory rows place f k there) uses (Asked theory rows bound place 0 f k there) uses
      left_asked bound uses h m =
          let e = equation_at theory place in
          let vs = arguments_of rows k there in
          let t = matched theory e (drop (suc place) theory.equations) f vs (put_by rows bound) uses (tight_at place h) m.fits in
          let u = subst (λ es. Keeps (Trying theory es f vs) uses
          (Asking theory e.premises e.right (put_by rows bound) (drop (suc place) theory.equations) f vs) uses)
          (sym (split_at theory.equations place no_equation h)) t in
          record { back = u.back; on = u.on; met = u.met; large = u.large }

      pub pending_found : (bound : List ℕ) (uses : ℕ) → place < length theory.equations →
          IsMatch rows bound (equation_at theory place).left (apply f (arguments_of rows k there)) →
          Keeps (Pending theory rows place f k todo there) uses (Wanting theory rows bound place 0 f k todo there) uses
      pending_found bound uses h m =
          let q = through (λ w. Comes theory (map (task_of theory rows) todo) (w ∷ drop k (map (tree_at rows) there))) uses uses
          (left_asked bound uses h m) in
          record { back = q.back; on = q.on; met = q.met; large = q.large }

      -- no equation is left
      pub pending_stays : (new : List Node) (after : List ℕ) (uses : ℕ) → length theory.equations ≤ place →
          (IsTooLarge (apply f (arguments_of rows k there)) → ⊥) → IsLonger rows new → Each (IsStep theory rows) todo →
          map (tree_at new) after ≡ apply f (arguments_of rows k there) ∷ drop k (map (tree_at rows) there) →
          Keeps (Pending theory rows place f k todo there) uses (Coming theory new todo after) uses
      pending_stays new after uses h small longer steps e =
          let rest = λ (w : TermTree). Comes theory (map (task_of theory rows) todo) (w ∷ drop k (map (tree_at rows) there)) in
          let q = stayed theory f (arguments_of rows k there) rest uses small in
          let i = subst (λ es. Keeps (Through (Trying theory es f (arguments_of rows k there)) rest) uses
          (Comes theory (map (task_of theory rows) todo) (apply f (arguments_of rows k there) ∷ drop k (map (tree_at rows) there))) uses)
          (sym (drop_all place theory.equations h)) (record { back = q.back; on = q.on; met = q.met; large = q.large }) in
          let j = subst (λ tasks. Keeps (Pending theory rows place f k todo there) uses
          (Comes theory tasks (apply f (arguments_of rows k there) ∷ drop k (map (tree_at rows) there))) uses)
          (sym (same_tasks theory rows new longer todo (all_held theory rows todo steps)))
          (record { back = i.back; on = i.on; met = i.met; large = i.large }) in
          let l = subst (λ vals. Keeps (Pending theory rows place f k todo there) uses (Comes theory (map (task_of theory new) todo) vals)
          uses) (sym e) j in
          record { back = l.back; on = l.on; met = l.met; large = l.large }

      pub pending_large : length theory.equations ≤ place → IsTooLarge (apply f (arguments_of rows k there)) →
          MeetsLarge (Pending theory rows place f k todo there)
      pending_large h big =
          let rest = λ (w : TermTree). Comes theory (map (task_of theory rows) todo) (w ∷ drop k (map (tree_at rows) there)) in (
            apply f (arguments_of rows k there),
            subst (λ es. Through (Trying theory es f (arguments_of rows k there)) rest (meets (apply f (arguments_of rows k there))))
                (sym (drop_all place theory.equations h)) (stayed_met theory f (arguments_of rows k there) rest),
            big,
          )

    module _ (rows : List Node) (bound : List ℕ) (place next f k : ℕ) (todo : List Step) (there : List ℕ)
        (h : place < length theory.equations)
        (m : IsMatch rows bound (equation_at theory place).left (apply f (arguments_of rows k there))) where
      -- a premise is asked
      pub wanting_asks : (new : List Step) (start uses : ℕ) → ArePlanned theory rows bound place next start todo new →
          Keeps (Wanting theory rows bound place next f k todo there) uses (Coming theory rows new there) uses
      wanting_asks new start uses p =
          let e = equation_at theory place in
          let s = put_by rows bound in
          let vals = map (tree_at rows) there in
          let shape = at_place (HasPatterns theory) theory.equations place ex.orthogonal.patterns h in
          let hd = head_of_match s f shape.0 shape.1 (arguments_of rows k there) e.left shape.2 m.fits in
          let w : width (arguments_of rows k there) ≡ width shape.1 = ap width (sym hd.1) ∙ width_instances s shape.1 in
          let t = top_width k (width shape.1) vals w in
          let inside : (x : ℕ) → OccursInPremises x (premise p.left p.right ∷ drop (next + 1) e.premises) →
          OccursInPremises x e.premises = λ x o. still_occurs x next e.premises (subst (OccursInPremises x) (sym p.asks) o) in
          let q = asks theory ex.orthogonal.closed e p.left p.right (drop (next + 1) e.premises) s (drop (suc place) theory.equations) f
          (arguments_of rows k there) m.fits (tight_at place h) inside shape.1 (map (task_of theory rows) todo) vals start uses hd.0 t.0 in
          let r = subst (λ d. Keeps (Through
          (Asking theory (premise p.left p.right ∷ drop (next + 1) e.premises) e.right s (drop (suc place) theory.equations) f
          (arguments_of rows k there)) (λ w. Comes theory (map (task_of theory rows) todo) (w ∷ d))) uses
          (Comes theory (plan s p.left (plan s p.right
          (decide e (drop (next + 1) e.premises) (drop (suc place) theory.equations) start ∷ map (task_of theory rows) todo))) vals) uses)
          (sym t.1) q in
          let i = subst (λ ps. Keeps (Through
          (Asking theory ps e.right s (drop (suc place) theory.equations) f (arguments_of rows k there))
          (λ w. Comes theory (map (task_of theory rows) todo) (w ∷ drop k vals))) uses
          (Comes theory (plan s p.left (plan s p.right
          (decide e (drop (next + 1) e.premises) (drop (suc place) theory.equations) start ∷ map (task_of theory rows) todo))) vals) uses)
          (sym p.asks) r in
          let j = subst (λ tasks. Keeps (Through
          (Asking theory (drop next e.premises) e.right s (drop (suc place) theory.equations) f (arguments_of rows k there))
          (λ w. Comes theory (map (task_of theory rows) todo) (w ∷ drop k vals))) uses (Comes theory tasks vals) uses)
          (sym p.steps) i in
          record { back = j.back; on = j.on; met = j.met; large = j.large }

      -- the equation is used
      pub wanting_uses : (new : List Step) (after : List ℕ) (uses : ℕ) →
          length (equation_at theory place).premises ≤ next →
          map (task_of theory rows) new ≡ plan (put_by rows bound) (equation_at theory place).right (map (task_of theory rows) todo) →
          map (tree_at rows) after ≡ drop k (map (tree_at rows) there) →
          Keeps (Wanting theory rows bound place next f k todo there) uses (Coming theory rows new after) (uses + 1)
      wanting_uses new after uses n steps vals =
          let e = equation_at theory place in
          let s = put_by rows bound in
          let rest = λ (w : TermTree). Comes theory (map (task_of theory rows) todo) (w ∷ drop k (map (tree_at rows) there)) in
          let a = through rest uses (uses + 1)
          (used_once theory e.right s (drop (suc place) theory.equations) f (arguments_of rows k there) uses) in
          let b = planned theory s e.right (map (task_of theory rows) todo)
          (drop k (map (tree_at rows) there)) (uses + 1) in
          let d = keep_on uses (uses + 1) (uses + 1) a b in
          let i = subst (λ ps. Keeps (Through
          (Asking theory ps e.right s (drop (suc place) theory.equations) f (arguments_of rows k there)) rest) uses
          (Comes theory (plan s e.right (map (task_of theory rows) todo)) (drop k (map (tree_at rows) there))) (uses + 1))
          (sym (drop_all next e.premises n)) d in
          let j = subst (λ tasks. Keeps (Through
          (Asking theory (drop next e.premises) e.right s (drop (suc place) theory.equations) f (arguments_of rows k there)) rest)
          uses (Comes theory tasks (drop k (map (tree_at rows) there))) (uses + 1)) (sym steps) i in
          let l = subst (λ us. Keeps (Through
          (Asking theory (drop next e.premises) e.right s (drop (suc place) theory.equations) f (arguments_of rows k there)) rest)
          uses (Comes theory (map (task_of theory rows) new) us) (uses + 1)) (sym vals) j in
          record { back = l.back; on = l.on; met = l.met; large = l.large }

      -- no use is left
      pub wanting_spent : (uses budget : ℕ) → length (equation_at theory place).premises ≤ next → budget ≤ uses → uses ≤ budget →
          Exceeds (Wanting theory rows bound place next f k todo there) uses budget
      wanting_spent uses budget n few within v i l =
          let e = equation_at theory place in
          let rest = λ (w : TermTree). Comes theory (map (task_of theory rows) todo) (w ∷ drop k (map (tree_at rows) there)) in
          let r = subst (λ ps. Through (Asking theory ps e.right (put_by rows bound) (drop (suc place) theory.equations) f
          (arguments_of rows k there)) rest (gives v i)) (drop_all next e.premises n) l in
          let x = spent theory e.right (put_by rows bound) (drop (suc place) theory.equations) f
          (arguments_of rows k there) rest budget v i r in
          omega (arith, x, few, within)

      pub right_nodes : (x : ℕ) → Occurs x (equation_at theory place).right → IsNode rows (bound_at bound x)
      right_nodes x o = m.nodes x ((tight_at place h).right x o)

    module _ (rows : List Node) (place next f k : ℕ) (todo : List Step) (there : List ℕ) (a b : TermTree)
        (start : ℕ) (h : place < length theory.equations) (head : IsCallOf theory place f k) where
      -- the two values are equal
      pub decided_holds : (bound : List ℕ) (uses : ℕ) →
          IsMatch rows bound (equation_at theory place).left (apply f (arguments_of rows k there)) → a ≡ b →
          Keeps (Decided theory rows place next start a b todo there) uses (Wanting theory rows bound place next f k todo there) uses
      decided_holds bound uses m alike =
          let e = equation_at theory place in
          let vals = map (tree_at rows) there in
          let over : arguments_of rows k there ≡ top (width head.0) vals no_terms = ap (λ i. top i vals no_terms) head.2 in
          let q = decided_alike theory e (drop next e.premises) (drop (suc place) theory.equations) f head.0 (arguments_of rows k there)
          (map (task_of theory rows) todo) vals a b start head.1 over (put_by rows bound) uses m.fits (tight_at place h)
          (λ x o. still_occurs x next e.premises o) alike in
          let r = subst (λ i. Keeps (Comes theory
          (decide e (drop next e.premises) (drop (suc place) theory.equations) start ∷ map (task_of theory rows) todo) (b ∷ a ∷ vals)) uses
          (Through (Asking theory (drop next e.premises) e.right (put_by rows bound) (drop (suc place) theory.equations) f
          (arguments_of rows k there)) (λ w. Comes theory (map (task_of theory rows) todo) (w ∷ drop i vals))) uses) (sym head.2)
          (record { back = q.back; on = q.on; met = q.met; large = q.large }) in
          record { back = r.back; on = r.on; met = r.met; large = r.large }

      -- no match, which can't be
      pub decided_nothing : (uses budget : ℕ) →
          ((s : ℕ → TermTree) → instance s (equation_at theory place).left ≡ apply f (arguments_of rows k there) → ⊥) → a ≡ b →
          Exceeds (Decided theory rows place next start a b todo there) uses budget
      decided_nothing uses budget never alike v n l =
          let e = equation_at theory place in
          let vals = map (tree_at rows) there in
          let over : arguments_of rows k there ≡ top (width head.0) vals no_terms = ap (λ i. top i vals no_terms) head.2 in
          let o = opened theory e (drop next e.premises) (drop (suc place) theory.equations) f head.0 (arguments_of rows k there)
          (map (task_of theory rows) todo) vals a b start head.1 over (gives v n) l in
          absurd (by_case o.3)
        where
          by_case : {w : TermTree} {c : ℕ} →
              Deciding theory (equation_at theory place) (drop next (equation_at theory place).premises)
              (drop (suc place) theory.equations) f (arguments_of rows k there) a b (gives w c) → ⊥
          by_case (inl (q, (s, g, t))) = never s g
          by_case (inr (d, t)) = d alike

      -- the two values differ
      pub decided_fails : (uses : ℕ) → (a ≡ b → ⊥) →
          Keeps (Decided theory rows place next start a b todo there) uses (Pending theory rows (suc place) f k todo there) uses
      decided_fails uses differ =
          let e = equation_at theory place in
          let vals = map (tree_at rows) there in
          let over : arguments_of rows k there ≡ top (width head.0) vals no_terms = ap (λ i. top i vals no_terms) head.2 in
          let q = decided_unalike theory e (drop next e.premises) (drop (suc place) theory.equations) f head.0 (arguments_of rows k there)
          (map (task_of theory rows) todo) vals a b start head.1 over uses differ in
          let r = subst (λ i. Keeps (Comes theory
          (decide e (drop next e.premises) (drop (suc place) theory.equations) start ∷ map (task_of theory rows) todo) (b ∷ a ∷ vals)) uses
          (Through (Trying theory (drop (suc place) theory.equations) f (arguments_of rows k there))
          (λ w. Comes theory (map (task_of theory rows) todo) (w ∷ drop i vals))) uses) (sym head.2)
          (record { back = q.back; on = q.on; met = q.met; large = q.large }) in
          record { back = r.back; on = r.on; met = r.met; large = r.large }

pub three_ways : (j p : ℕ) → (j < p) ⊎ (j ≡ p) ⊎ (p < j)
three_ways zero zero = inr (inl refl)
three_ways zero (suc p) = inl (omega arith)
three_ways (suc j) zero = inr (inr (omega arith))
three_ways (suc j) (suc p) = one_up (three_ways j p)
  where
    one_up : (j < p) ⊎ (j ≡ p) ⊎ (p < j) → (suc j < suc p) ⊎ (suc j ≡ suc p) ⊎ (suc p < suc j)
    one_up (inl h) = inl (omega (arith, h))
    one_up (inr (inl e)) = inr (inl (ap suc e))
    one_up (inr (inr h)) = inr (inr (omega (arith, h)))

-- the equations up to the next one with the same head don't match
pub skip_more : (theory : Theory) → IsExecutable theory → (f : ℕ) (vs : TermTrees) (from place next : ℕ) →
    Heads f (equation_at theory place) →
    ((j : ℕ) → from ≤ j → j < place → j < length theory.equations → (s : ℕ → TermTree) →
    instance s (equation_at theory j).left ≡ apply f vs → ⊥) →
    ((s : ℕ → TermTree) → instance s (equation_at theory place).left ≡ apply f vs → ⊥) →
    ((j : ℕ) → place < j → j < next → j < length theory.equations → Heads f (equation_at theory j) → ⊥) → (j : ℕ) → from ≤ j → j < next →
    j < length theory.equations → (s : ℕ → TermTree) → instance s (equation_at theory j).left ≡ apply f vs → ⊥
skip_more theory ex f vs from place next hd before here between j a b m s q = by_place (three_ways j place)
  where
    by_place : (j < place) ⊎ (j ≡ place) ⊎ (place < j) → ⊥
    by_place (inl h) = before j a h m s q
    by_place (inr (inl e)) = here s (subst (λ i. instance s (equation_at theory i).left ≡ apply f vs) e q)
    by_place (inr (inr h)) = between j h b m (match_heads theory ex j f vs s m q)

-- two values are on top
pub chosen : (theory : Theory) (rows : List Node) (place next start : ℕ) (todo : List Step) (there mid rest : List ℕ) (left right uses : ℕ) →
    there ≡ right ∷ mid → mid ≡ left ∷ rest →
    Keeps (Choosing theory rows place next start todo there) uses
    (Decided theory rows place next start (tree_at rows left) (tree_at rows right) todo rest) uses
chosen theory rows place next start todo there mid rest left right uses e q =
    subst (λ vs. Keeps (Choosing theory rows place next start todo vs) uses
    (Decided theory rows place next start (tree_at rows left) (tree_at rows right) todo rest) uses) (sym (e ∙ ap (λ vs. right ∷ vs) q))
    (record { back = λ v n l. (n, l, refl); on = λ v n l. (n, l, refl); met = λ w l. l; large = λ w b l. l })
