-- Checked specifications: data, the numbered constructs of the behaviour, and the names of the gates.
use Rattle.std.specs.Prelude.{ℕ, List, Option, Some, None, map}
use Rattle.spec_core.specs.declared.items.Sort.{Sort}
use Rattle.spec_core.specs.declared.items.Gate.{Gate}
use Rattle.spec_core.specs.declared.term.Term.{Term}
use Rattle.spec_core.specs.declared.code.ExitField.{ExitField}
use Rattle.spec_core.specs.declared.code.ExitField.TheVariants.{Give as GiveAtExit, Any}
use Rattle.spec_core.specs.declared.code.ActField.{ActField}
use Rattle.spec_core.specs.declared.code.ActField.TheVariants.{Give, Take}
use Rattle.spec_core.specs.declared.code.GateSet.{GateSet}
use Rattle.spec_core.specs.declared.code.GateSet.TheVariants.{Every, These}
use Rattle.spec_core.specs.declared.code.CodeNode.{CodeNode}
use Rattle.spec_core.specs.declared.code.CodeNode.TheVariants.{Stop, Exit, Inner, Act, Choice, Guard, Let, Values, Gates, Par, Hide, Enable}
use Rattle.spec_core.specs.declared.code.CodeNode.TheVariants.{Disable, Call, Relabel, Process}
use Rattle.spec_core.specs.declared.code.Checked.{Checked}
use Rattle.spec_core.specs.Numbers.{gate_number}
use Rattle.spec_core.specs.Terms.{TermTree, term_of}
use Rattle.spec_core.specs.Theories.{Premise, premise, Theory, premise_of, theory_of}

-- a variable by its number, with its sort
pub record Variable : Type 0 where
  pub number : ℕ
  pub sort : ℕ

-- a variable with the term whose value it has
pub record Binding : Type 0 where
  pub variable : Variable
  pub term : TermTree

-- a gate and the gate that stands in its place
pub record Relabelling : Type 0 where
  pub from : ℕ
  pub to : ℕ

-- a field of `exit`
pub data ExitValue : Type 0 where
  exit_given : TermTree → ExitValue
  exit_any : ℕ → ExitValue

-- a field of an action
pub data ActionField : Type 0 where
  give : TermTree → ActionField
  accept : Variable → ActionField

-- the gates at which a parallel composition synchronises
pub data Synchronised : Type 0 where
  every_gate : Synchronised
  these_gates : List ℕ → Synchronised

-- a construct over parts by their numbers
pub data Node : Type 0 where
  stop : Node
  exit : List ExitValue → Node
  inner : ℕ → Node
  action : ℕ → List ActionField → Option Premise → ℕ → Node
  choice : ℕ → ℕ → Node
  guarded : Premise → ℕ → Node
  bound : List Binding → ℕ → Node
  value_choice : Variable → ℕ → Node
  gate_choice : ℕ → List ℕ → ℕ → Node
  parallel : Synchronised → ℕ → ℕ → Node
  hide : List ℕ → ℕ → Node
  enable : ℕ → List Variable → ℕ → Node
  disable : ℕ → ℕ → Node
  call : ℕ → List ℕ → List TermTree → Node
  relabel : List Relabelling → ℕ → Node
  process : List ℕ → List Variable → ℕ → Node

-- a checked specification
pub record Program : Type 0 where
  pub theory : Theory
  pub code : List Node
  pub start : ℕ
  pub gates : List (List ℕ)
  pub processes : ℕ

-- what the types of the program stand for
abbrev pub variable_of : ℕ × Sort → Variable
variable_of x = record { number = x.0; sort = x.1.0 }

abbrev pub binding_of : ℕ × Sort × Term → Binding
binding_of b = record { variable = record { number = b.0; sort = b.1.0 }; term = term_of b.2 }

abbrev pub relabelling_of : Gate × Gate → Relabelling
relabelling_of m = record { from = m.0.0; to = m.1.0 }

abbrev pub exit_value_of : ExitField → ExitValue
exit_value_of (GiveAtExit t) = exit_given (term_of t)
exit_value_of (Any sort) = exit_any sort.0

abbrev pub action_field_of : ActField → ActionField
action_field_of (Give t) = give (term_of t)
action_field_of (Take x sort) = accept (record { number = x; sort = sort.0 })

abbrev pub synchronised_of : GateSet → Synchronised
synchronised_of Every = every_gate
synchronised_of (These gates) = these_gates (map gate_number gates.items)

abbrev pub guard_of : Option (Term × Term) → Option Premise
guard_of None = None
guard_of (Some p) = Some (premise_of p)

abbrev pub node_of : CodeNode → Node
node_of Stop = stop
node_of (Exit fields) = exit (map exit_value_of fields.items)
node_of (Inner part) = inner part.0
node_of (Act gate fields guard rest) = action gate.0 (map action_field_of fields.items) (guard_of guard) rest.0
node_of (Choice left right) = choice left.0 right.0
node_of (Guard left right part) = guarded (premise (term_of left) (term_of right)) part.0
node_of (Let bindings part) = bound (map binding_of bindings.items) part.0
node_of (Values x sort part) = value_choice (record { number = x; sort = sort.0 }) part.0
node_of (Gates gate gates part) = gate_choice gate.0 (map gate_number gates.items) part.0
node_of (Par gates left right) = parallel (synchronised_of gates) left.0 right.0
node_of (Hide gates part) = hide (map gate_number gates.items) part.0
node_of (Enable left vars right) = enable left.0 (map variable_of vars.items) right.0
node_of (Disable left right) = disable left.0 right.0
node_of (Call called gates values) = call called (map gate_number gates.items) (map term_of values.items)
node_of (Relabel pairs part) = relabel (map relabelling_of pairs.items) part.0
node_of (Process gates vars body) = process (map gate_number gates.items) (map variable_of vars.items) body.0

abbrev pub program_of : Checked → Program
program_of c = record {
  theory = theory_of c.algebra;
  code = map node_of c.code.items;
  start = c.start;
  gates = c.gates.items;
  processes = c.processes;
}
