-- A call that is performed by a right side in postfix order.
use Rattle.std.proofs.Common.{ℕ, zero, suc, ◌≡◌, ◌+◌, ◌<◌, ◌≤◌, List, [], ◌∷◌, ◌++◌, length, map, drop, reverse, refl, sym, ap, subst}
use Rattle.std.proofs.Common.{◌∙◌, arith, append_assoc, slice_index_or, inl, inr, take, get_or}
use Rattle.std.proofs.lemmas.List.{map-append, reverse-append}
use Rattle.spec_core.specs.Budgets.{IsBeyond}
use Rattle.spec_core.specs.Executable.{IsExecutable}
use Rattle.spec_core.specs.declared.items.Op.{Op}
use Rattle.spec_core.specs.Lists.{Each}
use Rattle.spec_core.proofs.Lists.{each_implied, map_next, take_next}
use Rattle.spec_core.specs.Orthogonality.{IsAmong, AreApart, AllApart, HasNoLooseVariables}
use Rattle.spec_core.specs.Terms.{TermTree, TermTrees, variable, apply, no_terms, and_term, width, instance, Occurs}
use Rattle.spec_core.specs.Theories.{Premise, ConditionalEquation, Theory}
use Rattle.value_nodes.specs.declared.node.Node.{Node}
use Rattle.value_nodes.specs.Nodes.{tree_at, cost_at, all_costs, IsNode}
use Rattle.value_nodes.specs.Own.{AreOwnValues}
use Rattle.value_nodes.proofs.Nodes.{longer_itself}
use Rattle.rewriter.specs.declared.step.Step.{Step}
use Rattle.rewriter.specs.declared.step.Step.TheVariants.{Put, Call}
use Rattle.rewriter.specs.Calls.{arguments_of, Pending, Wanting}
use Rattle.rewriter.specs.Machine.{Task, put, call, plan, plan_all, Keeps}
use Rattle.rewriter.specs.Runs.{Coming, IsReady}
use Rattle.rewriter.specs.Steps.{no_equation, equation_at, bound_at, put_by, task_of, IsStep}
use Rattle.rewriter.proofs.Calling.{begins_call, calling_skips, calling_asked, calling_uses}
use Rattle.rewriter.proofs.Calls.{at_place, match_heads, pending_skips, pending_found, wanting_uses, right_nodes}
use Rattle.rewriter.proofs.Loop.{put_kept, put_counted}
use Rattle.rewriter.proofs.Moves.{keep_on}
use Rattle.rewriter.proofs.Tops.{drop_map, each_under}
use Rattle.match_code.specs.declared.frames.Frame.{Frame}
use Rattle.match_code.specs.declared.rights.Symbol.{Symbol}
use Rattle.match_code.specs.declared.rights.Symbol.TheVariants.{Variable, Operation}
use Rattle.match_code.specs.declared.rights.Right.{Right}
use Rattle.match_code.specs.Rights.{task_by, OnVariable, IsUnconditional, IsRule}
use Rattle.match_code.specs.States.{IsState}
use Rattle.match_code.proofs.States.{state_stepped, state_spent, at_equal, turn_one}

pub on_variables : (P Q : ℕ → Type 0) → ((x : ℕ) → P x → Q x) → (symbols : List Symbol) → Each (OnVariable P) symbols →
    Each (OnVariable Q) symbols
on_variables P Q h [] e = tt
on_variables P Q h (Variable x ∷ symbols) e = (h x e.0, on_variables P Q h symbols e.1)
on_variables P Q h (Operation op count ∷ symbols) e = (tt, on_variables P Q h symbols e.1)

-- tasks planned before others
mutual
  pub plan_over : (s : ℕ → TermTree) (t : TermTree) (done todo : List Task) → plan s t done ++ todo ≡ plan s t (done ++ todo)
  plan_over s (variable x) done todo = refl
  plan_over s (apply f ts) done todo = plan_all_over s ts (call f (width ts) ∷ done) todo

  pub plan_all_over : (s : ℕ → TermTree) (ts : TermTrees) (done todo : List Task) →
      plan_all s ts done ++ todo ≡ plan_all s ts (done ++ todo)
  plan_all_over s no_terms done todo = refl
  plan_all_over s (and_term t ts) done todo = plan_over s t (plan_all s ts done) todo ∙ ap (plan s t) (plan_all_over s ts done todo)

pub each_mapped : (P : ℕ → Type 0) (f : ℕ → ℕ) (xs : List ℕ) → Each (λ x. P (f x)) xs → Each P (map f xs)
each_mapped P f [] e = tt
each_mapped P f (x ∷ xs) e = (e.0, each_mapped P f xs e.1)

each_puts : (theory : Theory) (rows : List Node) (ns : List ℕ) (after : List Step) → Each (IsNode rows) ns →
    Each (IsStep theory rows) after → Each (IsStep theory rows) (map Put ns ++ after)
each_puts theory rows [] after a b = b
each_puts theory rows (n ∷ ns) after a b = (a.0, each_puts theory rows ns after a.1 b)

mapped_puts : (theory : Theory) (rows : List Node) (bound xs : List ℕ) →
    map (task_of theory rows) (map Put (map (bound_at bound) xs)) ≡ map (λ x. put (put_by rows bound x)) xs
mapped_puts theory rows bound [] = refl
mapped_puts theory rows bound (x ∷ xs) = ap (λ ts. put (put_by rows bound x) ∷ ts) (mapped_puts theory rows bound xs)

-- the step that a symbol is
abbrev step_by : List ℕ → Symbol → Step
step_by bound (Variable x) = Put (bound_at bound x)
step_by bound (Operation op count) = Call op count

mapped_steps : (theory : Theory) (rows : List Node) (bound : List ℕ) (symbols : List Symbol) →
    map (task_of theory rows) (map (step_by bound) symbols) ≡ map (task_by (put_by rows bound)) symbols
mapped_steps theory rows bound [] = refl
mapped_steps theory rows bound (Variable x ∷ symbols) =
    ap (λ ts. put (put_by rows bound x) ∷ ts) (mapped_steps theory rows bound symbols)
mapped_steps theory rows bound (Operation op count ∷ symbols) =
    ap (λ ts. call op.0 count ∷ ts) (mapped_steps theory rows bound symbols)

-- values that are put come to what is there after it, at what they keep together
module _ (theory : Theory) (tights : Each HasNoLooseVariables theory.equations) (rows : List Node) (after : List Step) where
  pub puts_kept : (ns there : List ℕ) (uses : ℕ) → AreOwnValues theory rows → Each (IsNode rows) ns →
      Keeps (Coming theory rows (map Put ns ++ after) there) uses (Coming theory rows after (reverse ns ++ there))
      (uses + all_costs rows ns)
  puts_kept [] there uses own h = record {
    back = λ v n l. (n, l, omega arith);
    on = λ v n l. (n, l, omega arith);
    met = λ w l. l;
    large = λ w b l. l;
  }
  puts_kept (n ∷ ns) there uses own h =
      let first = put_kept theory rows (Put n) n (map Put ns ++ after) there (n ∷ there) uses (uses + cost_at rows n) tights (own n h.0)
      refl refl refl in
      let q = keep_on uses (uses + cost_at rows n) (uses + cost_at rows n + all_costs rows ns) first
      (puts_kept ns (n ∷ there) (uses + cost_at rows n) own h.1) in
      let e : uses + cost_at rows n + all_costs rows ns ≡ uses + (cost_at rows n + all_costs rows ns) = omega arith in
      subst (λ vs. Keeps (Coming theory rows (Put n ∷ map Put ns ++ after) there) uses (Coming theory rows after vs)
      (uses + (cost_at rows n + all_costs rows ns))) (sym (turn_one n ns there))
      (subst (λ k. Keeps (Coming theory rows (Put n ∷ map Put ns ++ after) there) uses
      (Coming theory rows after (reverse ns ++ n ∷ there)) k) e q)

  pub puts_ready : (ns there : List ℕ) (uses : ℕ) → IsReady theory rows (map Put ns ++ after) there uses →
      IsReady theory rows after (reverse ns ++ there) (uses + all_costs rows ns)
  puts_ready [] there uses r =
      let e : uses ≡ uses + 0 = omega arith in
      subst (IsReady theory rows after there) e r
  puts_ready (n ∷ ns) there uses r =
      let k = puts_ready ns (n ∷ there) (uses + cost_at rows n)
      (record {
        steps = r.steps.1;
        values = (r.steps.0, r.values);
        own = r.own;
        small = r.small;
        counted = put_counted theory rows (Put n) n (map Put ns ++ after) there (n ∷ there) uses (uses + cost_at rows n)
            (r.own n r.steps.0) refl refl refl r.counted;
      }) in
      let e : uses + cost_at rows n + all_costs rows ns ≡ uses + (cost_at rows n + all_costs rows ns) = omega arith in
      subst (λ vs. IsReady theory rows after vs (uses + (cost_at rows n + all_costs rows ns))) (sym (turn_one n ns there))
      (subst (IsReady theory rows after (reverse ns ++ n ∷ there)) e k)

-- what is kept of the first of several nodes is no more than what is kept of all
pub costs_taken : (rows : List Node) (f : ℕ → ℕ) (xs : List ℕ) (i : ℕ) →
    all_costs rows (map f (take i xs)) ≤ all_costs rows (map f xs)
costs_taken rows f [] zero = omega arith
costs_taken rows f [] (suc i) = omega arith
costs_taken rows f (x ∷ xs) zero = omega arith
costs_taken rows f (x ∷ xs) (suc i) = let r = costs_taken rows f xs i in omega (arith, r)

pub costs_joined : (rows : List Node) (is js : List ℕ) → all_costs rows (is ++ js) ≡ all_costs rows is + all_costs rows js
costs_joined rows [] js = omega arith
costs_joined rows (i ∷ is) js = let r = costs_joined rows is js in omega (arith, r)

-- and of one more of them
pub costs_next : (rows : List Node) (f : ℕ → ℕ) (xs : List ℕ) (i x : ℕ) → i < length xs → x ≡ get_or xs i x →
    all_costs rows (map f (take (i + 1) xs)) ≡ all_costs rows (map f (take i xs)) + cost_at rows (f x)
costs_next rows f xs i x h at =
    let e = ap (all_costs rows) (map_next f xs i x h at) in
    let j = costs_joined rows (map f (take i xs)) (f x ∷ []) in
    let z : all_costs rows (f x ∷ []) ≡ cost_at rows (f x) + 0 = refl in
    omega (arith, e, j, z)

-- of equations without premises that are apart, no two match the same
apart_at : (theory : Theory) (es : List ConditionalEquation) (i j : ℕ) → i < j → j < length es → AllApart theory es →
    AreApart theory (slice_index_or es i no_equation) (slice_index_or es j no_equation)
apart_at theory [] i j h l a = absurd (omega (arith, l))
apart_at theory (e ∷ es) zero zero h l a = absurd (omega (arith, h))
apart_at theory (e ∷ es) zero (suc j) h l a = at_place (AreApart theory e) es j a.0 (omega (arith, l))
apart_at theory (e ∷ es) (suc i) zero h l a = absurd (omega (arith, h))
apart_at theory (e ∷ es) (suc i) (suc j) h l a = apart_at theory es i j (omega (arith, h)) (omega (arith, l)) a.1

none_among : (r : ℕ → ℕ) (p : Premise) → IsAmong r [] [] p → ⊥
none_among r p (inl o) = o
none_among r p (inr o) = o

no_common : (theory : Theory) (e d : ConditionalEquation) → AreApart theory e d → e.premises ≡ [] → d.premises ≡ [] →
    (s z : ℕ → TermTree) → instance s e.left ≡ instance z d.left → ⊥
no_common theory e d (inl h) a b s z q = h s z q
no_common theory e d (inr x) a b s z q =
    none_among x.name x.p (subst (λ ps. IsAmong x.name [] ps x.p) b (subst (λ ps. IsAmong x.name ps d.premises x.p) a x.here))

none_before : (theory : Theory) → IsExecutable theory → (f : ℕ) (vs : TermTrees) (place : ℕ) (s : ℕ → TermTree) →
    place < length theory.equations → IsUnconditional theory f → instance s (equation_at theory place).left ≡ apply f vs → (j : ℕ) → 0 ≤ j →
    j < place → j < length theory.equations → (z : ℕ → TermTree) → instance z (equation_at theory j).left ≡ apply f vs → ⊥
none_before theory ex f vs place s h plain q j a b m z r =
    no_common theory (equation_at theory j) (equation_at theory place)
    (apart_at theory theory.equations j place b h ex.orthogonal.apart)
    (plain j m (match_heads theory ex j f vs z m r)) (plain place h (match_heads theory ex place f vs s h q)) z s (r ∙ sym q)

module _ (theory : Theory) (ex : IsExecutable theory) (t : TermTree) (budget : ℕ) (rows : List Node) (frames : List Frame) (op : Op)
    (k : ℕ) (todo : List Step) (there : List ℕ) (uses : ℕ) (s : IsState theory t budget rows frames (Call op k ∷ todo) there uses)
    (bound : List ℕ) (right : Right) (rule : IsRule theory rows bound op.0 k there right) where
  no_premise : length (equation_at theory right.place).premises ≤ 0
  no_premise =
      let e = rule.unconditional right.place rule.right.there
      (match_heads theory ex right.place op.0 (arguments_of rows k there) (put_by rows bound) rule.right.there rule.fits.fits) in
      let n : length (equation_at theory right.place).premises ≡ 0 = ap length e in
      omega (arith, n)

  to_rule : Keeps (Pending theory rows 0 op.0 k todo there) uses (Wanting theory rows bound right.place 0 op.0 k todo there) uses
  to_rule =
      keep_on uses uses uses
      (pending_skips theory rows 0 right.place op.0 k todo there uses (omega arith)
      (none_before theory ex op.0 (arguments_of rows k there) right.place (put_by rows bound) rule.right.there rule.unconditional rule.fits.fits))
      (pending_found theory ex rows right.place op.0 k todo there bound uses rule.right.there rule.fits)

  -- the nodes for which a right side's variables stand
  pub node_of : (x : ℕ) → Occurs x (equation_at theory right.place).right → IsNode rows (bound_at bound x)
  node_of x o = right_nodes theory ex rows bound right.place 0 op.0 k todo there rule.right.there rule.fits x o

  -- those of the variables with which it begins
  abbrev pub nodes : List ℕ
  nodes = map (bound_at bound) right.first.items

  there_nodes : Each (IsNode rows) nodes
  there_nodes =
      each_mapped (IsNode rows) (bound_at bound) right.first.items
      (each_implied (λ x. Occurs x (equation_at theory right.place).right) (λ x. IsNode rows (bound_at bound x)) right.first.items node_of
      rule.right.postfix.first_there)

  planned : (after : List Step) →
      map (task_of theory rows) after ≡ map (task_by (put_by rows bound)) right.rest ++ map (task_of theory rows) todo →
      map (task_of theory rows) (map Put nodes ++ after)
      ≡ plan (put_by rows bound) (equation_at theory right.place).right (map (task_of theory rows) todo)
  planned after tasks =
      let by = put_by rows bound in
      let first = right.first.items in
      let left : List Task = map (task_of theory rows) todo in
      map-append (task_of theory rows) (map Put nodes) after
      ∙ ap (λ ts. ts ++ map (task_of theory rows) after) (mapped_puts theory rows bound first)
      ∙ ap (λ ts. map (λ x. put (by x)) first ++ ts) tasks
      ∙ sym (append_assoc (map (λ x. put (by x)) first) (map (task_by by) right.rest) left)
      ∙ ap (λ ts. ts ++ left) (rule.right.postfix.planned by)
      ∙ plan_over by (equation_at theory right.place).right [] left

  -- the call comes to what the right side comes to, after one use more and those of the values that are put
  rewritten : (after : List Step) →
      map (task_of theory rows) after ≡ map (task_by (put_by rows bound)) right.rest ++ map (task_of theory rows) todo →
      Keeps (Pending theory rows 0 op.0 k todo there) uses (Coming theory rows after (reverse nodes ++ drop k there))
      (uses + 1 + all_costs rows nodes)
  rewritten after tasks =
      let used = wanting_uses theory ex rows bound right.place 0 op.0 k todo there rule.right.there rule.fits (map Put nodes ++ after)
      (drop k there) uses no_premise (planned after tasks) (drop_map (tree_at rows) k there) in
      let puts = puts_kept theory ex.orthogonal.closed rows after nodes (drop k there) (uses + 1) s.ready.own there_nodes in
      keep_on uses uses (uses + 1 + all_costs rows nodes) to_rule
      (keep_on uses (uses + 1) (uses + 1 + all_costs rows nodes) used puts)

  ready_after : (after : List Step) →
      map (task_of theory rows) after ≡ map (task_by (put_by rows bound)) right.rest ++ map (task_of theory rows) todo →
      Each (IsStep theory rows) after → IsReady theory rows after (reverse nodes ++ drop k there) (uses + 1 + all_costs rows nodes)
  ready_after after tasks steps =
      let begun = begins_call theory rows op k todo there uses s.ready in
      let found = calling_skips theory rows op.0 k uses 0 right.place todo there uses (omega arith)
      (none_before theory ex op.0 (arguments_of rows k there) right.place (put_by rows bound) rule.right.there rule.unconditional
      rule.fits.fits) begun in
      let asked = calling_asked theory ex rows bound op.0 k uses right.place todo there uses rule.right.there rule.fits found in
      puts_ready theory ex.orthogonal.closed rows after nodes (drop k there) (uses + 1)
      (calling_uses theory ex rows bound op.0 k uses right.place 0 todo there uses rule.right.there rule.fits asked
      (map Put nodes ++ after) (drop k there) no_premise (planned after tasks) (drop_map (tree_at rows) k there)
      (each_puts theory rows nodes after there_nodes steps) (each_under (IsNode rows) k there s.ready.values))

  -- the right side is to be evaluated, after these uses
  pub state_rewritten : (after : List Step) (now : List ℕ) (u : ℕ) →
      map (task_of theory rows) after ≡ map (task_by (put_by rows bound)) right.rest ++ map (task_of theory rows) todo →
      Each (IsStep theory rows) after → now ≡ reverse nodes ++ drop k there → u ≡ uses + 1 + all_costs rows nodes → u ≤ budget →
      IsState theory t budget rows frames after now u
  state_rewritten after now u tasks steps vals total within =
      let q = rewritten after tasks in
      let r = ready_after after tasks steps in
      let e : uses + 1 + all_costs rows nodes ≤ budget = omega (arith, total, within) in
      at_equal theory t budget rows frames frames after after (reverse nodes ++ drop k there) now (uses + 1 + all_costs rows nodes) u
      (state_stepped theory ex t budget rows frames rows (Call op k ∷ todo) after there (reverse nodes ++ drop k there) uses
      (uses + 1 + all_costs rows nodes) s (longer_itself rows) r e
      (record { back = q.back; on = q.on; met = q.met; large = q.large }))
      refl refl vals total

  -- too few uses are left
  pub state_overspent : budget < uses + 1 + all_costs rows nodes → IsBeyond theory t budget
  state_overspent over =
      let steps = map (step_by bound) right.rest ++ todo in
      let tasks = map-append (task_of theory rows) (map (step_by bound) right.rest) todo
      ∙ ap (λ ts. ts ++ map (task_of theory rows) todo) (mapped_steps theory rows bound right.rest) in
      let q = rewritten steps tasks in
      state_spent theory ex t budget rows frames (Call op k ∷ todo) there uses s
      (λ v n l. let x = q.on v n l in omega (arith, over, x.2))

-- a variable goes from the symbols to the variables before them
pub move_one : (s : ℕ → TermTree) (first : List ℕ) (x : ℕ) (symbols : List Symbol) →
    map (λ y. put (s y)) (first ++ x ∷ []) ++ map (task_by s) symbols
    ≡ map (λ y. put (s y)) first ++ map (task_by s) (Variable x ∷ symbols)
move_one s first x symbols =
    ap (λ ts. ts ++ map (task_by s) symbols) (map-append (λ y. put (s y)) first (x ∷ []))
    ∙ append_assoc (map (λ y. put (s y)) first) (put (s x) ∷ []) (map (task_by s) symbols)

-- one symbol more of a right side is put before the steps
pub symbol_more : (theory : Theory) (rows : List Node) (bound : List ℕ) (symbols : List Symbol) (i : ℕ) (symbol : Symbol) (step : Step)
    (todo before now : List Step) → i < length symbols → symbol ≡ get_or symbols i symbol →
    map (task_of theory rows) todo ≡ map (task_by (put_by rows bound)) (reverse (take i symbols)) ++ map (task_of theory rows) before →
    task_of theory rows step ≡ task_by (put_by rows bound) symbol → now ≡ step ∷ todo →
    map (task_of theory rows) now ≡ map (task_by (put_by rows bound)) (reverse (take (i + 1) symbols)) ++ map (task_of theory rows) before
symbol_more theory rows bound symbols i symbol step todo before now within at h e p =
    ap (map (task_of theory rows)) p
    ∙ ap (λ t. t ∷ map (task_of theory rows) todo) e
    ∙ ap (λ ts. task_by (put_by rows bound) symbol ∷ ts) h
    ∙ sym (ap (λ us. map (task_by (put_by rows bound)) us ++ map (task_of theory rows) before)
    (ap reverse (take_next symbols i symbol within at) ∙ reverse-append (take i symbols) (symbol ∷ [])))
