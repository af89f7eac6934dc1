-- Chains of calls in code are chains of calls as they are written.
use Rattle.std.proofs.Common.{ℕ, ◌≡◌, List, [], ◌++◌, length, refl, sym, ap, subst, ◌∙◌}
use Rattle.std.proofs.Common.{inl, inr}
use Rattle.std.specs.Prelude.{Some, option_map}
use Rattle.std.specs.List.{slice_get, slice_index_or, Contains}
use Rattle.std.proofs.lemmas.Option.{slice_get-map, get_or_from_slice_get}
use Rattle.spec_core.specs.Code.{Node, Variable, Program, process, stop, exit, inner, action, choice, guarded, bound, value_choice, gate_choice}
use Rattle.spec_core.specs.Code.{parallel, hide, enable, disable, call, relabel}
use Rattle.spec_core.specs.Functionality.{Functionality}
use Rattle.spec_core.specs.Lists.{IsOneOf}
use Rattle.spec_core.specs.Ready.{CallsAtOnce, here, within, CallsProcess, IsCallOf, IsProcess, LeadsAtOnce, one_call, more_calls}
use Rattle.spec_core.proofs.Members.{contains_one}
use Rattle.type_cycles.specs.MadeFrom.{IsMadeFrom, directly, through, AreAcyclic}
use Rattle.static_readings.specs.Joins.{root}
use Rattle.static_call_cycles.specs.AtOnce.{calls_at_once}
use Rattle.static_call_cycles.specs.Unguarded.{called, links}
use Rattle.static_laws.specs.Assembled.{Placed, Definition, IsAssembled, calls_of, body_nodes}
use Rattle.static_laws.proofs.Assembling.{definition-located, defined-or-behind, tail-fits}
use Rattle.static_laws.proofs.Opens.{begins, one-open}
use Rattle.static_laws.proofs.OpensRows.{construct-calls}
use Rattle.static_laws.proofs.Parts.{node-fits}

-- the number is that of the definition of a process
abbrev pub IsDefined : Program → ℕ → Type 0
IsDefined program p = (formal : List ℕ) × (xs : List Variable) × (body : ℕ) × (slice_get program.code p ≡ Some (process formal xs body))

module _ (program : Program) (processes : ℕ → Functionality) (ds : List Definition) (whole : Placed)
    (h : IsAssembled program processes ds whole) where
  -- the definition whose node has this number
  pub definition-of : (p : ℕ) (node : Node) → slice_get program.code p ≡ Some node → IsProcess node →
      (d : Definition) × (slice_get ds p ≡ Some d)
  definition-of p node e is =
      elim (defined-or-behind program processes ds whole h p node e) as (λ _. (d : Definition) × (slice_get ds p ≡ Some d)) [
        | inl g ↦ g
        | inr g ↦ absurd ((node-fits program (length ds) (body_nodes ds ++ whole.read.nodes) g.0 node
            (tail-fits program processes ds whole h) g.2).1 is)
      ]

  -- what a process calls at once its body calls at once
  process-calls : (p q : ℕ) (d : Definition) → slice_get ds p ≡ Some d → CallsAtOnce program q p →
      Contains (slice_index_or (links (calls_of ds)) p []) q
  process-calls p q d e c =
      let l = definition-located program processes ds whole h p d e in
      let body : ℕ = root l.from d.body.read in
      let inside : CallsAtOnce program q body =
      one-open program q (process d.formal d.variables body) body (λ i. i) refl
      (begins program q (process d.formal d.variables body) p l.node c) in
      let calls : List ℕ = called (calls_at_once d.body.site d.body.construct) in
      let one : IsOneOf q calls = (construct-calls program q l.read d.body.site refl).at_once l.nodes inside in
      let linked : slice_get (links (calls_of ds)) p ≡ Some calls =
      slice_get-map called (calls_of ds) p
      ∙ ap (option_map called) (slice_get-map (λ d. calls_at_once d.body.site d.body.construct) ds p)
      ∙ ap (λ o. option_map called (option_map (λ d. calls_at_once d.body.site d.body.construct) o)) e in
      subst (λ l. Contains l q) (sym (get_or_from_slice_get (links (calls_of ds)) p calls [] linked)) (contains_one q calls one)

  module _ (parts : (number : ℕ) (node : Node) → slice_get program.code number ≡ Some node → CallsProcess program node) where
    defined-by-call : (q : ℕ) (node : Node) → IsCallOf q node → CallsProcess program node → IsDefined program q
    defined-by-call q stop i c = absurd i
    defined-by-call q (exit fields) i c = absurd i
    defined-by-call q (inner part) i c = absurd i
    defined-by-call q (action g fields guard rest) i c = absurd i
    defined-by-call q (choice left right) i c = absurd i
    defined-by-call q (guarded p part) i c = absurd i
    defined-by-call q (bound bindings part) i c = absurd i
    defined-by-call q (value_choice x part) i c = absurd i
    defined-by-call q (gate_choice g among part) i c = absurd i
    defined-by-call q (parallel synchronised left right) i c = absurd i
    defined-by-call q (hide hidden part) i c = absurd i
    defined-by-call q (enable left xs right) i c = absurd i
    defined-by-call q (disable left right) i c = absurd i
    defined-by-call q (call p actual values) i c = subst (IsDefined program) (sym i) c
    defined-by-call q (relabel relabelling part) i c = absurd i
    defined-by-call q (process formal xs body) i c = absurd i

    -- what is called is a process
    target-defined : (q : ℕ) {part : ℕ} → CallsAtOnce program q part → IsDefined program q
    target-defined q (here {part = part} node e i) = defined-by-call q node i (parts part node e)
    target-defined q (within node inside e one c) = target-defined q c

    leads-target : {p q : ℕ} → LeadsAtOnce program p q → IsDefined program q
    leads-target {p} {q} (one_call c) = target-defined q c
    leads-target (more_calls q c l) = leads-target l

    step : (p q : ℕ) → IsDefined program p → CallsAtOnce program q p → Contains (slice_index_or (links (calls_of ds)) p []) q
    step p q d c =
        let e = definition-of p (process d.0 d.1 d.2) d.3 tt in
        process-calls p q e.0 e.1 c

    leads-made : {p q : ℕ} → LeadsAtOnce program p q → IsDefined program p → IsMadeFrom (links (calls_of ds)) p q
    leads-made {p} {q} (one_call c) d = directly (step p q d c)
    leads-made {p} (more_calls q c l) d = through (step p q d c) (leads-made l (target-defined q c))

    pub none-leads-back : AreAcyclic (links (calls_of ds)) → (p : ℕ) → LeadsAtOnce program p p → ⊥
    none-leads-back acyclic p l = acyclic p (leads-made l (leads-target l))
