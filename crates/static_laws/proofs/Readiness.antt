-- A program that is put together of constructs that are read is ready.
use Rattle.std.proofs.Common.{ℕ, ◌≡◌, List, [], ◌++◌, length, sym, subst, ◌∙◌}
use Rattle.std.proofs.Common.{inl, inr}
use Rattle.std.specs.Prelude.{Some}
use Rattle.std.specs.List.{slice_get}
use Rattle.std.proofs.lemmas.Option.{same_Some}
use Rattle.spec_core.specs.Code.{Node, Variable, Program, process}
use Rattle.spec_core.specs.Executable.{IsExecutable}
use Rattle.spec_core.specs.Functionality.{Functionality, HasFunctionality, ProcessFits}
use Rattle.spec_core.specs.Functionality as core
use Rattle.spec_core.specs.Ready.{PartsFit, NamesBehaviour, AreNamed, IsReady}
use Rattle.spec_core.specs.Sorts.{no_variables}
use Rattle.type_cycles.specs.MadeFrom.{AreAcyclic}
use Rattle.static_readings.specs.Joins.{root}
use Rattle.static_call_cycles.specs.Unguarded.{links}
use Rattle.static_laws.specs.Assembled.{Placed, Definition, IsAssembled, calls_of, body_nodes}
use Rattle.static_laws.proofs.Assembling.{definition-agrees, whole-agrees, definition-located, defined-or-behind, tail-fits, whole-stands}
use Rattle.static_laws.proofs.Calling.{definition-of, none-leads-back}
use Rattle.static_laws.proofs.Parts.{node-fits}
use Rattle.static_laws.proofs.PartsRows.{nodes-fit}
use Rattle.static_laws.proofs.Whole.{construct-stands}

module _ (program : Program) (processes : ℕ → Functionality) (ds : List Definition) (whole : Placed)
    (h : IsAssembled program processes ds whole) where
  start-named : NamesBehaviour program program.start
  start-named =
      subst (NamesBehaviour program) (sym h.start)
      ((nodes-fit program processes h.whole_read (whole-agrees program processes ds whole h).headings).last (whole-stands program processes ds whole h))

  definition-parts : (number : ℕ) (d : Definition) → slice_get ds number ≡ Some d → (node : Node) →
      slice_get program.code number ≡ Some node → PartsFit program number node
  definition-parts number d e node at =
      let l = definition-located program processes ds whole h number d e in
      let same : process d.formal d.variables (root l.from d.body.read) ≡ node =
      same_Some (process d.formal d.variables (root l.from d.body.read)) node (sym l.node ∙ at) in
      subst (PartsFit program number) same (record {
        names = ((nodes-fit program processes l.read (definition-agrees program processes ds whole h number d e).headings).last l.nodes, tt);
        calls = tt;
        below = λ other. absurd (other tt);
      })

  parts-fit : (number : ℕ) (node : Node) → slice_get program.code number ≡ Some node → PartsFit program number node
  parts-fit number node at =
      elim (defined-or-behind program processes ds whole h number node at) as (λ _. PartsFit program number node) [
        | inl g ↦ definition-parts number g.0 g.1 node at
        | inr g ↦ subst (λ n. PartsFit program n node) (sym g.1)
            (node-fits program (length ds) (body_nodes ds ++ whole.read.nodes) g.0 node
            (tail-fits program processes ds whole h) g.2).0
      ]

  start-fits : HasFunctionality program processes [] no_variables program.start whole.read.functionality
  start-fits =
      subst (λ n. HasFunctionality program processes [] no_variables n whole.read.functionality) (sym h.start)
      ((construct-stands program processes h.whole_read [] no_variables (whole-agrees program processes ds whole h)).fits
      (whole-stands program processes ds whole h))

  -- what a definition's node says fits
  abbrev NodeProcessFits : ℕ → Node → Type 0
  NodeProcessFits p (process formal xs body) = ProcessFits program processes p formal xs body
  NodeProcessFits p _ = Unit {0}

  process-fits : (p : ℕ) (formal : List ℕ) (xs : List Variable) (body : ℕ) →
      slice_get program.code p ≡ Some (process formal xs body) → ProcessFits program processes p formal xs body
  process-fits p formal xs body at =
      let g = definition-of program processes ds whole h p (process formal xs body) at tt in
      let d : Definition = g.0 in
      let l = definition-located program processes ds whole h p d g.1 in
      let f = h.definitions p d g.1 in
      let same : process d.formal d.variables (root l.from d.body.read) ≡ process formal xs body =
      same_Some (process d.formal d.variables (root l.from d.body.read)) (process formal xs body) (sym l.node ∙ at) in
      let fits : NodeProcessFits p (process d.formal d.variables (root l.from d.body.read)) = (
        f.sorts,
        (
          d.body.read.functionality,
          (construct-stands program processes l.read d.formal (core.with_variables d.variables no_variables)
              (definition-agrees program processes ds whole h p d g.1)).fits l.nodes,
          f.ends,
        ),
      ) in
      subst (NodeProcessFits p) same fits

  pub ready : IsExecutable program.theory → AreNamed program → AreAcyclic (links (calls_of ds)) → IsReady program
  ready executable named acyclic = record {
    executable = executable;
    named = named;
    start = start-named;
    parts = parts-fit;
    well_formed = record {
      functionalities = processes;
      whole = whole.read.functionality;
      start = start-fits;
      processes = process-fits;
    };
    guarded = none-leads-back program processes ds whole h (λ number node at. (parts-fit number node at).calls) acyclic;
  }
