-- What is in scope where a construct of behaviour stands (ISO 8807, static semantics).
use Rattle.std.specs.Prelude.{ℕ, suc, ◌+◌, List, [], ◌∷◌, ◌++◌, map, length, take, Option, Some, None, if◌then◌else◌}
use Rattle.std.specs.List.{find}
use Rattle.spec_core.specs.Functionality.{Functionality}
use Rattle.lotos_ast.specs.declared.token.Token.{Token}
use Rattle.sort_overloads.specs.Readings.{Context, Declared}
use Rattle.sort_overloads.specs.Listed.{is_same_name}
use Rattle.sort_overloads.specs.Refused.{is_sort_known}
use Rattle.static_equations.specs.Variables.{sort_named}

-- a process that can be called: its name, its number, how many gates it has, the sorts of its values and how it ends. A sort that isn't
-- known is none; so is a functionality that names one
pub record Heading : Type 0 where
  pub name : List ℕ
  pub number : ℕ
  pub gates : ℕ
  pub sorts : List (Option ℕ)
  pub functionality : Option Functionality

pub record Site : Type 0 where
  -- sorts, operations, and variables, of which a later one hides an earlier one of its name
  pub context : Context
  -- the names of gates, of which a later one hides an earlier one; the number of the first, the others following
  pub gates : List (List ℕ)
  pub first_gate : ℕ
  -- processes, of which an earlier one hides a later one: those of inner `where` parts stand first
  pub processes : List Heading

-- the place of the last of these of this name, where the first has this place
abbrev pub last_named : List ℕ → Option ℕ → ℕ → List (List ℕ) → Option ℕ
last_named name found i [] = found
last_named name found i (g ∷ gs) = last_named name (if is_same_name g name then Some i else found) (suc i) gs

-- the number of the gate of this name
abbrev pub gate_number : Site → Token → Option ℕ
gate_number s t = last_named t.text None s.first_gate s.gates

-- the number that the next gate will have
abbrev pub next_gate : Site → ℕ
next_gate s = s.first_gate + length s.gates

-- the sort of this name, if it is known
abbrev pub sort_of : Site → Token → Option ℕ
sort_of s t = if is_sort_known s.context t.text then Some (sort_named s.context.sorts t.text) else None

-- the process of this name
abbrev pub process_named : Site → Token → Option Heading
process_named s t = find (λ p. is_same_name p.name t.text) s.processes

-- with the sorts and operations alone, and these processes; the next gate has this number
abbrev pub bare : Context → ℕ → List Heading → Site
bare c first_gate processes = record {
  context = record { sorts = c.sorts; operations = c.operations; variables = [] };
  gates = [];
  first_gate = first_gate;
  processes = processes;
}

-- with further gates, and with further variables

abbrev pub with_gates : Site → List Token → Site
with_gates s ts = record {
  context = s.context;
  gates = s.gates ++ map (λ t. t.text) ts;
  first_gate = s.first_gate;
  processes = s.processes;
}

abbrev pub with_variables : Site → List Declared → Site
with_variables s vs = record {
  context = record { sorts = s.context.sorts; operations = s.context.operations; variables = s.context.variables ++ vs };
  gates = s.gates;
  first_gate = s.first_gate;
  processes = s.processes;
}

-- with the first variables and gates alone
abbrev pub with_first : Site → ℕ → ℕ → Site
with_first s variables gates = record {
  context = record {
    sorts = s.context.sorts;
    operations = s.context.operations;
    variables = take variables s.context.variables;
  };
  gates = take gates s.gates;
  first_gate = s.first_gate;
  processes = s.processes;
}
