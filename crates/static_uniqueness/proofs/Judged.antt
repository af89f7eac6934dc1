-- Specifications that are alike are judged alike.
use Rattle.std.proofs.Common.{ℕ, ◌≡◌, ◌+◌, ◌∙◌, refl, sym, ap, subst, List, [], ◌∷◌, ◌++◌, length, map, Option, Some, None, option_map}
use Rattle.std.specs.List.{range_with_len}
use Rattle.lotos_ast.specs.declared.refusal.Refusal.{Refusal}
use Rattle.lotos_ast.specs.declared.spec.Spec.{Spec}
use Rattle.lotos_ast.specs.declared.token.Token.{Token}
use Rattle.spec_core.specs.Code.{process, Program}
use Rattle.spec_core.specs.Theories.{Theory}
use Rattle.static_equations.specs.Variables.{all_variables}
use Rattle.type_names.specs.DuplicateNames.{names_twice}
use Rattle.static_constructs.specs.Written.{gates_in, behaviour_written}
use Rattle.static_readings.specs.Declarations.{numbered_from}
use Rattle.static_readings.specs.Joins.{Read, root, after}
use Rattle.static_readings.specs.ReadsAll.{before}
use Rattle.static_readings.specs.Readings.{IsRead}
use Rattle.static_call_cycles.specs.AtOnce.{calls_at_once}
use Rattle.static_call_cycles.specs.Unguarded.{unguarded_refusals}
use Rattle.static_processes.specs.Headings.{declared, opening_refusals, parameter_sorts}
use Rattle.static_processes.specs.Processes.{Entry, entries}
use Rattle.static_check.specs.Bodies.{Setting, body_site, ending_refusals, unknown_in, Placed, placed, AreBodiesRead, none_left, one_more, calls_from}
use Rattle.static_check.specs.Compiled.{data_context, setting, start_site, process_node, process_nodes, body_nodes, program_if_read, IsJudged}
use Rattle.syntax_laws.specs.Alike.{AreAlike}
use Rattle.static_uniqueness.proofs.Lists.{length-same, map-same}
use Rattle.static_uniqueness.specs.Constructs as constructs
use Rattle.static_uniqueness.specs.SpecificationsAlike.{AreEntriesAlike, AreSpecificationsAlike}
use Rattle.static_uniqueness.specs.Specifications.{SameIsJudged}
use Rattle.static_uniqueness.proofs.Tables.{AreSettingsAlike, parameter-sorts-same, declared-same, functionality-refused-same, all-variables-same, table-refused-same, within-same, site-same, calls-same}

name-same : (e f : Entry) → AreEntriesAlike e f → e.process.name.text ≡ f.process.name.text
name-same e f k = let name : e.process.name ≡ f.process.name = k.process.name in λ i. (name i).text

module _ (all other : Setting) (k : AreSettingsAlike all other) where
  bodies-same : constructs.SameIsRead → (number from end : ℕ) (es fs : List Entry) → AreAlike AreEntriesAlike es fs → (found : Option (List Placed)) (rs : List Refusal) → AreBodiesRead all number from end es found rs → AreBodiesRead other number from end fs found rs
  bodies-same same_is_read number from end [] [] l found rs none_left = none_left
  bodies-same same_is_read number from end [] (f ∷ fs) l found rs h = absurd l
  bodies-same same_is_read number from end (e ∷ es) [] l found rs h = absurd l
  bodies-same same_is_read number from end (e ∷ es) (f ∷ fs) l found rs (one_more _ _ x xs rb rest h m) =
      let context : all.context ≡ other.context = k.context in
      let name : e.process.name ≡ f.process.name = l.0.process.name in
      let ends = (λ i. declared (context i) e.process.functionality) ∙ declared-same other.context e.process.functionality f.process.functionality l.0.process.functionality in
      let unknown = (λ i. unknown_in (length (context i).sorts) (parameter_sorts (context i) e.process.parameters))
      ∙ ap (unknown_in (length other.context.sorts)) (parameter-sorts-same other.context e.process.parameters f.process.parameters l.0.process.parameters) in
      let read = same_is_read (body_site other number f) from e.process.body f.process.body l.0.process.body x rb
      (subst (λ s. IsRead s from e.process.body x rb) (site-same all other k number e f l.0) h) in
      subst (λ z. AreBodiesRead other number from end (f ∷ fs) (before (option_map (placed from) x) xs) ((rb ++ z) ++ rest)) (λ i. ending_refusals (sym unknown i) (sym name i).place (sym ends i) x)
      (one_more f fs x xs rb rest read (bodies-same same_is_read (number + 1) (after from x) end es fs l.1 xs rest m))

  calls-from-same : (number : ℕ) (es fs : List Entry) → AreAlike AreEntriesAlike es fs → calls_from all number es ≡ calls_from other number fs
  calls-from-same number [] [] l = refl
  calls-from-same number [] (f ∷ fs) l = absurd l
  calls-from-same number (e ∷ es) [] l = absurd l
  calls-from-same number (e ∷ es) (f ∷ fs) l =
      let first = (λ i. calls_at_once (site-same all other k number e f l.0 i) e.process.body) ∙ calls-same (body_site other number f) e.process.body f.process.body l.0.process.body in
      λ i. first i ∷ calls-from-same (number + 1) es fs l.1 i

  node-same : (e f : Entry) → AreEntriesAlike e f → (body : Placed) → process_node all e body ≡ process_node other f body
  node-same e f l body =
      let context : all.context ≡ other.context = k.context in
      let gates : all.gates ≡ other.gates = k.gates in
      let own : e.process.gates ≡ f.process.gates = l.process.gates in
      let parameters = (λ i. all_variables (context i).sorts e.process.parameters) ∙ all-variables-same other.context e.process.parameters f.process.parameters l.process.parameters in
      λ i. process (range_with_len (gates i) (length (own i))) (numbered_from 0 (parameters i)) (root body.from body.read)

  nodes-same : (es fs : List Entry) → AreAlike AreEntriesAlike es fs → (bodies : List Placed) → process_nodes all es bodies ≡ process_nodes other fs bodies
  nodes-same [] [] l bodies = refl
  nodes-same [] (f ∷ fs) l bodies = absurd l
  nodes-same (e ∷ es) [] l bodies = absurd l
  nodes-same (e ∷ es) (f ∷ fs) l [] = refl
  nodes-same (e ∷ es) (f ∷ fs) l (body ∷ bodies) = λ i. node-same e f l.0 body i ∷ nodes-same es fs l.1 bodies i

module _ (theory : Theory) (a b : Spec) (k : AreSpecificationsAlike a b) where
  gates : gates_in a.gates ≡ gates_in b.gates
  gates = k.gates

  settings : AreSettingsAlike (setting theory a) (setting theory b)
  settings = record { context = refl; gates = (λ i. length (gates i)); table = k.processes }

  start-same : start_site (setting theory a) a ≡ start_site (setting theory b) b
  start-same = λ i. record {
    context = data_context theory;
    gates = map (λ (t : Token). t.text) (gates i);
    first_gate = 0;
    processes = within-same (setting theory a) (setting theory b) settings [] i;
  }

  program-same : (bodies : Option (List Placed)) (from : ℕ) (start : Option Read) → program_if_read theory a bodies from start ≡ program_if_read theory b bodies from start
  program-same None from start = refl
  program-same (Some bodies) from None = refl
  program-same (Some bodies) from (Some r) =
      let nodes = nodes-same (setting theory a) (setting theory b) settings (entries a) (entries b) k.processes bodies in
      let count = length-same AreEntriesAlike (entries a) (entries b) k.processes in
      λ i. Some (record {
        theory = theory;
        code = nodes i ++ (body_nodes bodies ++ r.nodes);
        start = root from r;
        gates = map (λ (t : Token). t.text) (gates i);
        processes = count i;
      })

  opening-same : opening_refusals (data_context theory) a ≡ opening_refusals (data_context theory) b
  opening-same = λ i. names_twice (gates i) ++ functionality-refused-same (data_context theory) a.functionality b.functionality k.functionality i

  judged-same : constructs.SameIsRead → (program : Option Program) (refusals : List Refusal) → IsJudged theory a program refusals → IsJudged theory b program refusals
  judged-same same_is_read program refusals h =
      let count = length-same AreEntriesAlike (entries a) (entries b) k.processes in
      let read = subst (λ n. AreBodiesRead (setting theory a) 0 n h.from (entries a) h.bodies h.body_refusals) count h.are_read in
      let name : a.name ≡ b.name = k.name in
      let ends = declared-same (data_context theory) a.functionality b.functionality k.functionality in
      let table = table-refused-same (data_context theory) (entries a) (entries b) k.processes in
      let names = map-same AreEntriesAlike (λ (e : Entry). e.process.name.text) (λ (e : Entry). e.process.name.text) name-same (entries a) (entries b) k.processes in
      let calls = calls-from-same (setting theory a) (setting theory b) settings 0 (entries a) (entries b) k.processes in
      record {
        bodies = h.bodies;
        body_refusals = h.body_refusals;
        from = h.from;
        are_read = bodies-same (setting theory a) (setting theory b) settings same_is_read 0 (length (entries b)) h.from (entries a) (entries b) k.processes h.bodies h.body_refusals read;
        start = h.start;
        start_refusals = h.start_refusals;
        is_read = same_is_read (start_site (setting theory b) b) h.from (behaviour_written a.behaviour) (behaviour_written b.behaviour) k.behaviour h.start h.start_refusals
            (subst (λ s. IsRead s h.from (behaviour_written a.behaviour) h.start h.start_refusals) start-same h.is_read);
        is_program = h.is_program ∙ program-same h.bodies h.from h.start;
        are_refusals = h.are_refusals ∙ (λ i. opening-same i ++ (table i ++ (h.body_refusals ++ (h.start_refusals
            ++ (ending_refusals None (name i).place (ends i) h.start ++ unguarded_refusals (names i) (calls i))))));
      }

pub same_is_judged : constructs.SameIsRead → SameIsJudged
same_is_judged same_is_read theory a b k = judged-same theory a b k same_is_read
