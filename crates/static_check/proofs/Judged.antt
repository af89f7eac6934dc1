-- What a specification comes to.
use Rattle.std.proofs.Common.{ℕ, ◌≡◌, ◌∙◌, refl, sym, ap, subst, List, ◌++◌, length, drop, map, append_assoc, Option, Some, None}
use Rattle.std.specs.Prelude.{option_map}
use Rattle.std.proofs.Math.Seq.{drop-append_seam}
use Rattle.lotos_ast.specs.declared.refusal.Refusal.{Refusal}
use Rattle.lotos_ast.specs.declared.spec.Spec.{Spec}
use Rattle.static_constructs.specs.Written.{gates_in, behaviour_written}
use Rattle.spec_core.specs.Code.{Node, Program}
use Rattle.spec_core.specs.Functionality.{Functionality}
use Rattle.spec_core.specs.Theories.{Theory}
use Rattle.sort_overloads.specs.Readings.{Context}
use Rattle.static_readings.specs.Joins.{Read, root}
use Rattle.static_readings.specs.Outputs.{Output, nodes_of}
use Rattle.static_processes.specs.Headings.{declared, table_refusals, opening_refusals}
use Rattle.static_processes.specs.Processes.{Entry, entries}
use Rattle.static_call_cycles.specs.declared.call.Call.{Call}
use Rattle.static_call_cycles.specs.Unguarded.{unguarded_refusals}
use Rattle.static_check.specs.Bodies.{Setting, Placed, ending_refusals, AreBodiesRead, calls_from}
use Rattle.static_check.specs.Compiled.{data_context, setting, start_site, process_nodes, body_nodes, program_if_read, IsJudged}
use Rattle.static_check.specs.Steps.{AreReadSoFar, IsStartRead, program_with_if}
use Rattle.static_check.specs.Views.{data_of}

-- the program is that of the bodies and of the specification's behaviour
is_program : (theory : Theory) (spec : Spec) (processes from : ℕ) (old code : List Node) (bodies : Option (List Placed)) (start : Option Read) → processes ≡ length old
    → ((bs : List Placed) → bodies ≡ Some bs → code ≡ (old ++ body_nodes bs) ++ nodes_of start) → processes ≡ length (entries spec)
    → program_with_if theory spec processes (option_map (process_nodes (setting theory spec) (entries spec)) bodies) code (option_map (root from) start)
    ≡ program_if_read theory spec bodies from start
is_program theory spec processes from old code None start first behind many = refl
is_program theory spec processes from old code (Some bs) None first behind many = refl
is_program theory spec processes from old code (Some bs) (Some r) first behind many =
    let nodes = process_nodes (setting theory spec) (entries spec) bs in
    let rest : drop processes code ≡ body_nodes bs ++ r.nodes =
    ap (λ n. drop n code) first ∙ ap (drop (length old)) (behind bs refl ∙ append_assoc old (body_nodes bs) r.nodes) ∙ drop-append_seam old (body_nodes bs ++ r.nodes) in
    ap (λ c. Some (record { theory = theory; code = nodes ++ c; start = root from r; gates = map (λ t. t.text) (gates_in spec.gates); processes = processes })) rest
    ∙ ap (λ n. Some (record { theory = theory; code = nodes ++ (body_nodes bs ++ r.nodes); start = root from r; gates = map (λ t. t.text) (gates_in spec.gates); processes = n })) many

regrouped : (a b c d e f : List Refusal) → ((((a ++ b) ++ c) ++ (d ++ e)) ++ f) ≡ a ++ (b ++ (c ++ (d ++ (e ++ f))))
regrouped a b c d e f = simp append_assoc

pub judged : (theory : Theory) (spec : Spec) (first bodies last : Output) (nodes : Option (List Node)) (start : Option ℕ) (processes : ℕ) (program : Option Program)
    (refusals : List Refusal) → length first.code ≡ length (entries spec)
    → first.refusals ≡ opening_refusals (data_context theory) spec ++ table_refusals (data_context theory) (entries spec)
    → AreReadSoFar (setting theory spec) (entries spec) first bodies nodes
    → IsStartRead (start_site (setting theory spec) spec) (behaviour_written spec.behaviour) bodies last
    (ending_refusals None spec.name.place (declared (data_context theory) spec.functionality)) start
    → refusals ≡ last.refusals ++ unguarded_refusals (map (λ e. e.process.name.text) (entries spec)) (calls_from (setting theory spec) 0 (entries spec))
    → processes ≡ length (entries spec) → program ≡ program_with_if theory spec processes nodes last.code start → IsJudged theory spec program refusals
judged theory spec first bodies last nodes start processes program refusals places opening h s cycles many made =
    let end = ending_refusals None spec.name.place (declared (data_context theory) spec.functionality) s.read in
    record {
      bodies = h.bodies;
      body_refusals = h.refusals;
      from = length bodies.code;
      are_read = subst (λ n. AreBodiesRead (setting theory spec) 0 n (length bodies.code) (entries spec) h.bodies h.refusals) places h.are_read;
      start = s.read;
      start_refusals = s.refusals;
      is_read = s.such;
      is_program =
          made ∙ ap (λ z. program_with_if theory spec processes z last.code start) h.made
          ∙ ap (λ z. program_with_if theory spec processes (option_map (process_nodes (setting theory spec) (entries spec)) h.bodies) last.code z) s.made
          ∙ is_program theory spec processes (length bodies.code) first.code last.code h.bodies s.read (many ∙ sym places)
          (λ bs is. s.code ∙ ap (λ c. c ++ nodes_of s.read) (h.code bs is)) many;
      are_refusals =
          cycles ∙ ap (λ z. z ++ unguarded_refusals (map (λ e. e.process.name.text) (entries spec)) (calls_from (setting theory spec) 0 (entries spec)))
          (s.refused ∙ ap (λ z. z ++ (s.refusals ++ end)) (h.refused ∙ ap (λ z. z ++ h.refusals) opening))
          ∙ regrouped (opening_refusals (data_context theory) spec) (table_refusals (data_context theory) (entries spec)) h.refusals s.refusals end
          (unguarded_refusals (map (λ e. e.process.name.text) (entries spec)) (calls_from (setting theory spec) 0 (entries spec)));
    }

-- the same, by settings that are known to be that of the specification
pub judged_in : (theory : Theory) (spec : Spec) (all again : Setting) (first bodies last : Output) (nodes : Option (List Node)) (start : Option ℕ) (processes : ℕ)
    (program : Option Program) (refusals : List Refusal) (ends : Option Functionality) (calls : List (List Call)) → all ≡ setting theory spec → again ≡ setting theory spec
    → length first.code ≡ length (entries spec)
    → first.refusals ≡ opening_refusals (data_context theory) spec ++ table_refusals (data_context theory) (entries spec)
    → AreReadSoFar all all.table first bodies nodes → ends ≡ declared (data_context theory) spec.functionality
    → IsStartRead (start_site again spec) (behaviour_written spec.behaviour) bodies last (ending_refusals None spec.name.place ends) start
    → calls ≡ calls_from all 0 all.table → refusals ≡ last.refusals ++ unguarded_refusals (map (λ e. e.process.name.text) all.table) calls
    → processes ≡ length all.table → program ≡ program_with_if theory spec processes nodes last.code start → IsJudged theory spec program refusals
judged_in theory spec all again first bodies last nodes start processes program refusals ends calls is too places opening h known s made cycles many put =
    judged theory spec first bodies last nodes start processes program refusals places opening
    (subst (λ a. AreReadSoFar a a.table first bodies nodes) is h)
    (subst (λ m. IsStartRead (start_site (setting theory spec) spec) (behaviour_written spec.behaviour) bodies last (ending_refusals None spec.name.place m) start) known
    (subst (λ a. IsStartRead (start_site a spec) (behaviour_written spec.behaviour) bodies last (ending_refusals None spec.name.place ends) start) too s))
    (cycles ∙ ap (λ z. last.refusals ++ unguarded_refusals (map (λ e. e.process.name.text) all.table) z) made
    ∙ ap (λ a. last.refusals ++ unguarded_refusals (map (λ e. e.process.name.text) a.table) (calls_from a 0 a.table)) is)
    (many ∙ ap (λ a. length a.table) is) put

-- the setting of a specification
pub its_setting : (theory : Theory) (spec : Spec) (c : Context) (gates : ℕ) (table : List Entry) → c ≡ data_context theory → gates ≡ length (gates_in spec.gates)
    → table ≡ entries spec → record { context = data_of c; gates = gates; table = table } ≡ setting theory spec
its_setting theory spec c gates table in_context of_gates of_table =
    ap (λ k. record { context = data_of k; gates = gates; table = table }) in_context
    ∙ ap (λ n. record { context = data_context theory; gates = n; table = table }) of_gates
    ∙ ap (λ es. record { context = data_context theory; gates = length (gates_in spec.gates); table = es }) of_table
