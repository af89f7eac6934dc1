-- What is known of bodies that are read, while others are left.
use Rattle.std.specs.Prelude.{ℕ, ◌≡◌, List, ◌++◌, length, drop, Option, Some, None, option_map, map}
use Rattle.std.specs.List.{range_with_len}
use Rattle.lotos_ast.specs.declared.refusal.Refusal.{Refusal}
use Rattle.lotos_ast.specs.declared.spec.Spec.{Spec}
use Rattle.spec_core.specs.Code.{Node, process, Program}
use Rattle.spec_core.specs.Theories.{Theory}
use Rattle.sort_overloads.specs.Readings.{Declared}
use Rattle.static_readings.specs.Declarations.{numbered_from}
use Rattle.static_readings.specs.Joins.{Read, root}
use Rattle.static_readings.specs.Outputs.{Output, nodes_of}
use Rattle.static_readings.specs.Readings.{IsRead}
use Rattle.static_readings.specs.Sites.{Site}
use Rattle.static_readings.specs.Views.{heading_of}
use Rattle.static_constructs.specs.Constructs.{Construct}
use Rattle.static_constructs.specs.Written.{gates_in}
use Rattle.static_processes.specs.Headings.{declared, headings_from}
use Rattle.static_processes.specs.Processes.{Entry}
use Rattle.static_check.specs.Bodies.{Setting, Placed, placed, body_site, body_ending_refusals, AreBodiesRead}
use Rattle.static_check.specs.Compiled.{process_node, process_nodes, body_nodes}
use Rattle.static_check.specs.declared.setting.Setting as code

-- the headings are those of the processes
abbrev pub HasHeadings : Setting → code.Setting → Type 0
HasHeadings all s = map heading_of s.headings.now ≡ headings_from all.context 0 all.table

-- the node of a process with these parameters, whose body has this node as its last
abbrev pub node_over : Setting → Entry → List Declared → ℕ → Node
node_over all e parameters body = process (range_with_len all.gates (length e.process.gates)) (numbered_from 0 parameters) body

-- a body is read: with its nodes and its refusals, those of its end among them; if nothing hinders it, there is the node of its process
pub record IsBodyRead (all : Setting) (number : ℕ) (e : Entry) (old now : Output) (node : Option Node) : Type 0 where
  pub read : Option Read
  pub refusals : List Refusal
  pub such : IsRead (body_site all number e) (length old.code) e.process.body read refusals
  pub code : now.code ≡ old.code ++ nodes_of read
  pub refused : now.refusals
      ≡ old.refusals ++ (refusals ++ body_ending_refusals all.context e.process read)
  pub made : node ≡ option_map (λ r. process_node all e (placed (length old.code) r)) read

-- the bodies of these processes are read: with their nodes, if nothing hinders it, and their refusals; and there are the nodes of the
-- processes
pub record AreReadSoFar (all : Setting) (es : List Entry) (old now : Output) (nodes : Option (List Node)) : Type 0 where
  pub bodies : Option (List Placed)
  pub refusals : List Refusal
  pub are_read : AreBodiesRead all 0 (length old.code) (length now.code) es bodies refusals
  pub code : (all : List Placed) → bodies ≡ Some all → now.code ≡ old.code ++ body_nodes all
  pub refused : now.refusals ≡ old.refusals ++ refusals
  pub made : nodes ≡ option_map (process_nodes all es) bodies

-- the behaviour of the specification is read where it stands: if nothing hinders it, this is the number of its last node
pub record IsStartRead (s : Site) (b : Construct) (old now : Output) (more : Option Read → List Refusal) (start : Option ℕ) : Type 0 where
  pub read : Option Read
  pub refusals : List Refusal
  pub such : IsRead s (length old.code) b read refusals
  pub code : now.code ≡ old.code ++ nodes_of read
  pub refused : now.refusals ≡ old.refusals ++ (refusals ++ more read)
  pub made : start ≡ option_map (root (length old.code)) read

-- a program of these nodes of its so many processes and of what stands behind the places for them, if both are there

abbrev pub program_with : Theory → Spec → ℕ → List Node → List Node → ℕ → Program
program_with theory spec processes nodes code start = record {
  theory = theory;
  code = nodes ++ drop processes code;
  start = start;
  gates = map (λ t. t.text) (gates_in spec.gates);
  processes = processes;
}

abbrev pub program_with_if : Theory → Spec → ℕ → Option (List Node) → List Node → Option ℕ → Option Program
program_with_if theory spec processes (Some nodes) code (Some start) = Some (program_with theory spec processes nodes code start)
program_with_if theory spec processes _ code _ = None
