-- What a specification is compiled to over its data, and what is refused of it (ISO 8807, static semantics; and this profile).
use Rattle.std.specs.Prelude.{ℕ, ◌≡◌, List, [], ◌∷◌, ◌++◌, map, length, Option, Some, None}
use Rattle.std.specs.List.{range_with_len}
use Rattle.lotos_ast.specs.declared.refusal.Refusal.{Refusal}
use Rattle.lotos_ast.specs.declared.spec.Spec.{Spec}
use Rattle.lotos_ast.specs.FirstRefusals.{first_refusal}
use Rattle.static_constructs.specs.Written.{gates_in, behaviour_written}
use Rattle.spec_core.specs.Code.{Node, process, Program}
use Rattle.spec_core.specs.Theories.{Theory}
use Rattle.sort_overloads.specs.Readings.{Context}
use Rattle.static_equations.specs.Variables.{all_variables}
use Rattle.static_readings.specs.Declarations.{numbered_from}
use Rattle.static_readings.specs.Joins.{Read, root}
use Rattle.static_readings.specs.Readings.{IsRead}
use Rattle.static_readings.specs.Sites.{Site}
use Rattle.static_processes.specs.Headings.{declared, table_refusals, opening_refusals}
use Rattle.static_processes.specs.Processes.{Entry, entries}
use Rattle.static_call_cycles.specs.Unguarded.{unguarded_refusals}
use Rattle.static_check.specs.Bodies.{Setting, Placed, headings_within, ending_refusals, AreBodiesRead, calls_from}

-- the sorts and operations of the data; no variable is in scope
abbrev pub data_context : Theory → Context
data_context theory = record { sorts = theory.sorts; operations = theory.operations; variables = [] }

abbrev pub setting : Theory → Spec → Setting
setting theory spec = record { context = data_context theory; gates = length (gates_in spec.gates); table = entries spec }

-- where the specification's behaviour stands: it sees the gates of the heading, and the processes of its own `where` part
abbrev pub start_site : Setting → Spec → Site
start_site all spec = record {
  context = all.context;
  gates = map (λ t. t.text) (gates_in spec.gates);
  first_gate = 0;
  processes = headings_within all [];
}

-- the node of a process: its gates and parameters are numbered as in its body
abbrev pub process_node : Setting → Entry → Placed → Node
process_node all e body = process (range_with_len all.gates (length e.process.gates))
    (numbered_from 0 (all_variables all.context.sorts e.process.parameters)) (root body.from body.read)

abbrev pub process_nodes : Setting → List Entry → List Placed → List Node
process_nodes all (e ∷ es) (body ∷ bodies) = process_node all e body ∷ process_nodes all es bodies
process_nodes all _ _ = []

abbrev pub body_nodes : List Placed → List Node
body_nodes [] = []
body_nodes (body ∷ bodies) = body.read.nodes ++ body_nodes bodies

-- the nodes of the processes by their numbers, then those of their bodies, then those of the specification's behaviour
abbrev pub assembled : Theory → Spec → List Placed → Placed → Program
assembled theory spec bodies start = record {
  theory = theory;
  code = process_nodes (setting theory spec) (entries spec) bodies ++ (body_nodes bodies ++ start.read.nodes);
  start = root start.from start.read;
  gates = map (λ t. t.text) (gates_in spec.gates);
  processes = length (entries spec);
}

abbrev pub program_if_read : Theory → Spec → Option (List Placed) → ℕ → Option Read → Option Program
program_if_read theory spec (Some bodies) from (Some r) = Some (assembled theory spec bodies (record { from = from; read = r }))
program_if_read theory spec _ from _ = None

-- a specification comes to this program, if all its behaviour is read, and these are all its refusals, in no special order. A program that
-- is refused somewhere isn't answered
pub record IsJudged (theory : Theory) (spec : Spec) (program : Option Program) (refusals : List Refusal) : Type 0 where
  -- the bodies of all processes; where their nodes end, those of the specification's behaviour begin
  pub bodies : Option (List Placed)
  pub body_refusals : List Refusal
  pub from : ℕ
  pub are_read : AreBodiesRead (setting theory spec) 0 (length (entries spec)) from (entries spec) bodies body_refusals
  pub start : Option Read
  pub start_refusals : List Refusal
  pub is_read : IsRead (start_site (setting theory spec) spec) from (behaviour_written spec.behaviour) start start_refusals
  pub is_program : program ≡ program_if_read theory spec bodies from start
  pub are_refusals : refusals ≡ opening_refusals (data_context theory) spec
      ++ (table_refusals (data_context theory) (entries spec)
      ++ (body_refusals
      ++ (start_refusals
      ++ (ending_refusals None spec.name.place (declared (data_context theory) spec.functionality) start
      ++ unguarded_refusals (map (λ e. e.process.name.text) (entries spec)) (calls_from (setting theory spec) 0 (entries spec))))))

-- a specification that is accepted is compiled to this program
abbrev pub IsCompiled : Theory → Spec → Program → Type 0
IsCompiled theory spec program = IsJudged theory spec (Some program) []

-- the first of all refusals of a specification over its data
pub record IsFirstRefusal (theory : Theory) (spec : Spec) (r : Refusal) : Type 0 where
  pub program : Option Program
  pub refusals : List Refusal
  pub judged : IsJudged theory spec program refusals
  pub first : first_refusal refusals ≡ Some r
