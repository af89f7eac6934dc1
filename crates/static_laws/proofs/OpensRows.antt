-- What the nodes of a construct call at once are the processes that the construct calls at once, construct by construct.
use Rattle.std.proofs.Common.{ℕ, suc, ◌≡◌, ◌<◌, ◌+◌, List, [], ◌∷◌, ◌++◌, length, map, refl, sym, ap, subst, ◌∙◌, arith}
use Rattle.std.proofs.Common.{length-append, inl, inr}
use Rattle.std.specs.Prelude.{pred, Option, Some, None, option_map, IfSome}
use Rattle.std.specs.List.{flat_map, range_with_len, find}
use Rattle.std.proofs.lemmas.List.{map-append}
use Rattle.lotos_ast.specs.declared.behaviour.GateChoice.{GateChoice}
use Rattle.lotos_ast.specs.declared.expression.Expr.{Expr}
use Rattle.lotos_ast.specs.declared.refusal.Refusal.{Refusal}
use Rattle.lotos_ast.specs.declared.token.Token.{Token}
use Rattle.spec_core.specs.Code.{Node, Variable, Program, ActionField, Synchronised, stop, exit, inner, action, choice, guarded, bound}
use Rattle.spec_core.specs.Code.{value_choice, gate_choice, parallel, hide, enable, disable, call}
use Rattle.spec_core.specs.Functionality.{Functionality, noexit, exits}
use Rattle.spec_core.specs.Lists.{IsOneOf}
use Rattle.spec_core.specs.Ready.{CallsAtOnce, IsCallOf, open_parts}
use Rattle.spec_core.specs.Terms.{TermTree}
use Rattle.spec_core.specs.Theories.{Premise}
use Rattle.spec_core.proofs.Members.{one_right, one_left}
use Rattle.sort_overloads.specs.Listed.{is_same_name}
use Rattle.static_constructs.specs.Constructs.{Construct}
use Rattle.static_readings.specs.Calls.{called, IsCallRead, unknown, miscounted, counted}
use Rattle.static_readings.specs.Declarations.{gate_numbers, declared_variables}
use Rattle.static_readings.specs.Joins.{Read, root, after, single, around, over, joined, either, both}
use Rattle.static_readings.specs.Readings.{ended, acting, under, value_choices, chosen, composed, synchronised, enabled, accepting, copied}
use Rattle.static_readings.specs.Readings.{copy_nodes, relabelled}
use Rattle.static_readings.specs.Readings.{IsRead, stopped, exited, acted_inside, acted, chosen_either, asked, bound_to_values}
use Rattle.static_readings.specs.Readings.{chosen_values, chosen_gates, composed_with, hidden, enabled_by, disabled_by, called_with}
use Rattle.static_readings.specs.Readings.{copied_at, AreGatesChosen, none_left, one_more}
use Rattle.static_readings.specs.Sites.{Site, Heading, gate_number, next_gate, process_named}
use Rattle.static_call_cycles.specs.AtOnce.{call_of, calls_at_once}
use Rattle.static_call_cycles.specs.Unguarded.{called as processes_called}
use Rattle.static_call_cycles.specs.declared.call.Call.{Call}
use Rattle.static_laws.specs.Standing.{StandAt}
use Rattle.static_laws.proofs.Codes.{in-front, behind, node-at}
use Rattle.static_laws.proofs.Copies.{before-pred, suc-pred}
use Rattle.static_laws.proofs.Opens.{Begins, begins, none-open, one-open, two-open, CallsOf, calls-single, calls-around, calls-over}
use Rattle.static_laws.proofs.Options.{if-map, if-all}

module _ (program : Program) (p : ℕ) where
  -- over one part through which calls are seen
  calls-through : (from : ℕ) (make : ℕ → Node) (r : Read) (called : List ℕ) → ((part : ℕ) → IsCallOf p (make part) → ⊥) →
      ((part : ℕ) → open_parts (make part) ≡ part ∷ []) → CallsOf program p from r called → CallsOf program p from (around from make r) called
  calls-through from make r called no-call sees h =
      calls-around program p from make r called
      (λ at b. h.at_once at (one-open program p (make (root from r)) (root from r) (no-call (root from r)) (sees (root from r)) b))

  -- over two parts through which calls are seen
  calls-both : (from : ℕ) (combine : Functionality → Functionality → Option Functionality) (make : ℕ → ℕ → Node) (x y : Option Read)
      (xs ys : List ℕ) → ((left right : ℕ) → IsCallOf p (make left right) → ⊥) →
      ((left right : ℕ) → open_parts (make left right) ≡ left ∷ right ∷ []) → IfSome x (λ r. CallsOf program p from r xs) →
      IfSome y (λ r. CallsOf program p (after from x) r ys) →
      IfSome (joined from combine make x y) (λ r. CallsOf program p from r (xs ++ ys))
  calls-both from combine make None y xs ys no-call sees hx hy = tt
  calls-both from combine make (Some x) None xs ys no-call sees hx hy = tt
  calls-both from combine make (Some x) (Some y) xs ys no-call sees hx hy =
      let left : ℕ = root from x in
      let right : ℕ = root (from + length x.nodes) y in
      if-map (λ r. CallsOf program p from r (xs ++ ys)) (over from make x y) (combine x.functionality y.functionality)
      (if-all (λ f. calls-over program p from make x y f (xs ++ ys)
      (λ ax ay b. elim (two-open program p (make left right) left right (no-call left right) (sees left right) b)
      as (λ _. IsOneOf p (xs ++ ys)) [
        | inl h ↦ one_left p xs ys (hx.at_once ax h)
        | inr h ↦ one_right p xs ys (hy.at_once ay h)
      ]))
      (combine x.functionality y.functionality))

  calls-under : {B : Type 0} (from : ℕ) (make : B → ℕ → Node) (o : Option B) (x : Option Read) (called : List ℕ) →
      ((y : B) (part : ℕ) → IsCallOf p (make y part) → ⊥) → ((y : B) (part : ℕ) → open_parts (make y part) ≡ part ∷ []) →
      IfSome x (λ r. CallsOf program p from r called) → IfSome (under from make o x) (λ r. CallsOf program p from r called)
  calls-under from make None x called no-call sees hx = tt
  calls-under from make (Some y) None called no-call sees hx = tt
  calls-under from make (Some y) (Some r) called no-call sees hx = calls-through from (make y) r called (no-call y) (sees y) hx

  calls-if-around : (from : ℕ) (make : ℕ → Node) (x : Option Read) (called : List ℕ) → ((part : ℕ) → IsCallOf p (make part) → ⊥) →
      ((part : ℕ) → open_parts (make part) ≡ part ∷ []) → IfSome x (λ r. CallsOf program p from r called) →
      IfSome (option_map (around from make) x) (λ r. CallsOf program p from r called)
  calls-if-around from make None called no-call sees hx = tt
  calls-if-around from make (Some r) called no-call sees hx = calls-through from make r called no-call sees hx

  -- an action, of either kind, stops calls

  calls-inner : (from : ℕ) (x : Option Read) → IfSome (option_map (around from inner) x) (λ r. CallsOf program p from r [])
  calls-inner from None = tt
  calls-inner from (Some r) = calls-around program p from inner r [] (λ at b. none-open program p (inner (root from r)) (λ q. q) refl b)

  calls-acting : (from : ℕ) (g : Option ℕ) (fields : Option (List (List ActionField))) (guard : Option (Option Premise)) (x : Option Read) →
      IfSome (acting from g fields guard x) (λ r. CallsOf program p from r [])
  calls-acting from None fields guard x = tt
  calls-acting from (Some g) None guard x = tt
  calls-acting from (Some g) (Some fs) None x = tt
  calls-acting from (Some g) (Some fs) (Some guard) None = tt
  calls-acting from (Some g) (Some fs) (Some guard) (Some r) =
      calls-around program p from (action g (flat_map (λ all. all) fs) guard) r []
      (λ at b. none-open program p (action g (flat_map (λ all. all) fs) guard (root from r)) (λ q. q) refl b)

  calls-choices : (from : ℕ) (xs : List Variable) (r : Read) (called : List ℕ) → CallsOf program p from r called →
      CallsOf program p from (value_choices from xs r) called
  calls-choices from [] r called h = h
  calls-choices from (x ∷ xs) r called h =
      calls-through from (value_choice x) (value_choices from xs r) called (λ _ q. q) (λ _. refl) (calls-choices from xs r called h)

  calls-chosen : (from : ℕ) (o : Option (List Variable)) (x : Option Read) (called : List ℕ) →
      IfSome x (λ r. CallsOf program p from r called) → IfSome (chosen from o x) (λ r. CallsOf program p from r called)
  calls-chosen from None x called h = tt
  calls-chosen from (Some xs) None called h = tt
  calls-chosen from (Some xs) (Some r) called h = calls-choices from xs r called h

  calls-composed : (from : ℕ) (o : Option Synchronised) (x y : Option Read) (xs ys : List ℕ) →
      IfSome x (λ r. CallsOf program p from r xs) → IfSome y (λ r. CallsOf program p (after from x) r ys) →
      IfSome (composed from o x y) (λ r. CallsOf program p from r (xs ++ ys))
  calls-composed from None x y xs ys hx hy = tt
  calls-composed from (Some gates) x y xs ys hx hy =
      calls-both from both (parallel gates) x y xs ys (λ _ _ q. q) (λ _ _. refl) hx hy

  -- an enabling: only the left part is seen
  calls-enabled : (from : ℕ) (o : Option (List Variable)) (x y : Option Read) (called : List ℕ) →
      IfSome x (λ r. CallsOf program p from r called) → IfSome (enabled from o x y) (λ r. CallsOf program p from r called)
  calls-enabled from None x y called hx = tt
  calls-enabled from (Some xs) None y called hx = tt
  calls-enabled from (Some xs) (Some x) None called hx = tt
  calls-enabled from (Some xs) (Some x) (Some y) called hx =
      let left : ℕ = root from x in
      let right : ℕ = root (from + length x.nodes) y in
      if-map (λ r. CallsOf program p from r called) (over from (λ left right. enable left xs right) x y)
      (accepting x.functionality xs y.functionality)
      (if-all (λ f. calls-over program p from (λ left right. enable left xs right) x y f called
      (λ ax ay b. hx.at_once ax (one-open program p (enable left xs right) left (λ q. q) refl b)))
      (accepting x.functionality xs y.functionality))

  -- copies call what the part calls
  copies-call : (sync : Synchronised) (part g : ℕ) (among : List ℕ) → StandAt program (suc part) (copy_nodes sync part g among) →
      CallsAtOnce program p (part + length (copy_nodes sync part g among)) → CallsAtOnce program p part
  copies-call sync part g [] at c = subst (CallsAtOnce program p) (omega arith) c
  copies-call sync part g (a ∷ []) at c =
      let same : part + 1 ≡ suc part = omega arith in
      one-open program p (relabelled part g a) part (λ q. q) refl
      (begins program p (relabelled part g a) (suc part) (node-at (relabelled part g a) [] at) (subst (CallsAtOnce program p) same c))
  copies-call sync part g (a ∷ b ∷ others) at c =
      let rest : List Node = copy_nodes sync part g (b ∷ others) in
      let left : ℕ = suc part + length rest in
      let right : ℕ = part + length rest in
      let one : Node = relabelled part g a in
      let two : Node = parallel sync left right in
      let end : StandAt program left (one ∷ two ∷ []) = behind rest (one ∷ two ∷ []) at in
      let same : part + length (rest ++ (one ∷ two ∷ [])) ≡ left + 1 = omega (arith, length-append rest (one ∷ two ∷ [])) in
      elim (two-open program p two left right (λ q. q) refl
      (begins program p two (left + 1) (node-at two [] (behind (one ∷ []) (two ∷ []) end)) (subst (CallsAtOnce program p) same c)))
      as (λ _. CallsAtOnce program p part) [
        | inl h ↦ one-open program p one part (λ q. q) refl (begins program p one left (node-at one (two ∷ []) end) h)
        | inr h ↦ copies-call sync part g (b ∷ others) (in-front rest (one ∷ two ∷ []) at) h
      ]

  calls-copied : (from g : ℕ) (o : Option Synchronised) (among : Option (List ℕ)) (x : Option Read) (called : List ℕ) →
      IfSome x (λ r. CallsOf program p from r called) → IfSome (copied from g o among x) (λ r. CallsOf program p from r called)
  calls-copied from g None among x called h = tt
  calls-copied from g (Some sync) None x called h = tt
  calls-copied from g (Some sync) (Some []) None called h = tt
  calls-copied from g (Some sync) (Some (a ∷ among)) None called h = tt
  calls-copied from g (Some sync) (Some []) (Some r) called h =
      calls-single program p from stop noexit called (λ b. absurd (none-open program p stop (λ q. q) refl b))
  calls-copied from g (Some sync) (Some (a ∷ among)) (Some r) called h =
      let part : ℕ = root from r in
      let nodes : List Node = copy_nodes sync part g (a ∷ among) in
      let some : 0 < from + length r.nodes = omega (arith, h.filled) in
      let e : from + length (r.nodes ++ nodes) ≡ (from + length r.nodes) + length nodes = omega (arith, length-append r.nodes nodes) in
      record {
        filled = omega (arith, h.filled, length-append r.nodes nodes);
        at_once = λ at c. h.at_once (in-front r.nodes nodes at) (copies-call sync part g (a ∷ among)
            (subst (λ n. StandAt program n nodes) (sym (suc-pred (from + length r.nodes) some)) (behind r.nodes nodes at))
            (subst (CallsAtOnce program p) (ap pred e ∙ before-pred (from + length r.nodes) (length nodes) some) c));
      }

  call-begins : (q : ℕ) (gs : List ℕ) (ts : List TermTree) → Begins program p (call q gs ts) → IsOneOf p (q ∷ [])
  call-begins q gs ts (inl e) = inl e
  call-begins q gs ts (inr h) = absurd h.1

  calls-called : (from : ℕ) (q : Heading) (gs : Option (List ℕ)) (values : Option (List TermTree)) →
      IfSome (called q gs values) (λ r. CallsOf program p from r (q.number ∷ []))
  calls-called from q None values = tt
  calls-called from q (Some gs) None = tt
  calls-called from q (Some gs) (Some ts) =
      if-map (λ r. CallsOf program p from r (q.number ∷ [])) (single (call q.number gs ts)) q.functionality
      (if-all (λ f. calls-single program p from (call q.number gs ts) f (q.number ∷ [])
      (call-begins q.number gs ts)) q.functionality)

  calls-call : (from : ℕ) (s : Site) (name : Token) (ts : List Token) (es : List Expr) (o : Option Heading) (x : Option Read)
      (rs : List Refusal) → IsCallRead s name ts es o x rs → IfSome x (λ r. CallsOf program p from r (processes_called (call_of name.place o)))
  calls-call from s name ts es o x rs unknown = tt
  calls-call from s name ts es o x rs (miscounted q other) = tt
  calls-call from s name ts es o x rs (counted q values refusals counts d) = calls-called from q (gate_numbers s ts) values

  -- the processes that two lists of calls call
  calls-joined : (from : ℕ) (one other : List Call) (x : Option Read) →
      IfSome x (λ r. CallsOf program p from r (processes_called one ++ processes_called other)) →
      IfSome x (λ r. CallsOf program p from r (processes_called (one ++ other)))
  calls-joined from one other x h =
      subst (λ l. IfSome x (λ r. CallsOf program p from r l)) (sym (map-append (λ c. c.process) one other)) h

  mutual
    pub construct-calls : {s : Site} {from : ℕ} {b : Construct} {found : Option Read} {rs : List Refusal} → IsRead s from b found rs →
        (t : Site) → s.processes ≡ t.processes → IfSome found (λ r. CallsOf program p from r (processes_called (calls_at_once t b)))
    construct-calls {from = from} stopped t same = calls-single program p from stop noexit [] (λ b. none-open program p stop (λ q. q) refl b)
    construct-calls {from = from} (exited values found rs d) t same =
        if-map (λ r. CallsOf program p from r []) ended found
        (if-all (λ vs. calls-single program p from (exit (map (λ v. v.0) vs)) (exits (map (λ v. v.1) vs)) []
        (λ b. none-open program p (exit (map (λ v. v.0) vs)) (λ q. q) refl b)) found)
    construct-calls {from = from} (acted_inside b x rs d) t same = calls-inner from x
    construct-calls {s} {from} (acted gate offers predicate b fields guard x ro rp rb o q d) t same =
        calls-acting from (gate_number s gate) fields guard x
    construct-calls {s} {from} (chosen_either place a b x y ra rb d e) t same =
        calls-joined from (calls_at_once t a) (calls_at_once t b) (joined from either choice x y)
        (calls-both from either choice x y (processes_called (calls_at_once t a)) (processes_called (calls_at_once t b)) (λ _ _ q. q)
        (λ _ _. refl) (construct-calls d t same) (construct-calls e t same))
    construct-calls {s} {from} (asked q b found x rp rb j d) t same =
        calls-under from guarded found x (processes_called (calls_at_once t b)) (λ _ _ q. q) (λ _ _. refl) (construct-calls d t same)
    construct-calls {s} {from} (bound_to_values bindings b found x rv rb v d) t same =
        calls-under from bound found x (processes_called (calls_at_once t b)) (λ _ _ q. q) (λ _ _. refl) (construct-calls d t same)
    construct-calls {s} {from} (chosen_values ds b x rb d) t same =
        calls-chosen from (declared_variables s ds) x (processes_called (calls_at_once t b)) (construct-calls d t same)
    construct-calls (chosen_gates cs b x rs d) t same = choices-call d t same
    construct-calls {s} {from} (composed_with place operator a b x y ra rb d e) t same =
        calls-joined from (calls_at_once t a) (calls_at_once t b) (composed from (synchronised s operator) x y)
        (calls-composed from (synchronised s operator) x y (processes_called (calls_at_once t a)) (processes_called (calls_at_once t b))
        (construct-calls d t same) (construct-calls e t same))
    construct-calls {s} {from} (hidden gates b x rb d) t same =
        calls-if-around from (hide (range_with_len (next_gate s) (length gates))) x (processes_called (calls_at_once t b)) (λ _ q. q) (λ _. refl)
        (construct-calls d t same)
    construct-calls {s} {from} (enabled_by place a ds b x y ra rb d e) t same =
        calls-enabled from (declared_variables s ds) x y (processes_called (calls_at_once t a)) (construct-calls d t same)
    construct-calls {s} {from} (disabled_by place a b x y ra rb d e) t same =
        calls-joined from (calls_at_once t a) (calls_at_once t b) (joined from either disable x y)
        (calls-both from either disable x y (processes_called (calls_at_once t a)) (processes_called (calls_at_once t b)) (λ _ _ q. q)
        (λ _ _. refl) (construct-calls d t same) (construct-calls e t same))
    construct-calls {s} {from} (called_with name gates es x rs d) t same =
        subst (λ ps. IfSome x (λ r. CallsOf program p from r
        (processes_called (call_of name.place (find (λ q. is_same_name q.name name.text) ps))))) same
        (calls-call from s name gates es (process_named s name) x rs d)
    construct-calls {s} {from} (copied_at gate among operator b x rb d) t same =
        calls-copied from (next_gate s) (synchronised s operator) (gate_numbers s among) x (processes_called (calls_at_once t b)) (construct-calls d t same)

    choices-call : {s : Site} {from : ℕ} {cs : List GateChoice} {b : Construct} {found : Option Read} {rs : List Refusal} →
        AreGatesChosen s from cs b found rs → (t : Site) → s.processes ≡ t.processes →
        IfSome found (λ r. CallsOf program p from r (processes_called (calls_at_once t b)))
    choices-call (none_left b x rs d) t same = construct-calls d t same
    choices-call {s} {from} (one_more c cs b x rs d) t same =
        calls-under from (gate_choice (next_gate s)) (gate_numbers s c.gates.gates.items) x (processes_called (calls_at_once t b)) (λ _ _ q. q) (λ _ _. refl)
        (choices-call d t same)
