-- Where the code of a construct stands in a program, and what the site of the construct says of the program.
use Rattle.std.specs.Prelude.{◌≡◌, ℕ, ◌<◌, ◌≤◌, List, ◌++◌, map, length, Option, Some}
use Rattle.std.specs.List.{slice_get}
use Rattle.spec_core.specs.Code.{Node, Variable, Program, process}
use Rattle.spec_core.specs.Functionality.{Functionality, IsGateInScope}
use Rattle.spec_core.specs.Lists.{Each}
use Rattle.spec_core.specs.Theories.{Theory}
use Rattle.sort_overloads.specs.Readings.{Context}
use Rattle.static_readings.specs.Sites.{Site, Heading, next_gate}

-- these nodes stand in the program from this number on
pub record StandAt (program : Program) (from : ℕ) (nodes : List Node) : Type 0 where
  pub prior : List Node
  pub more : List Node
  pub code : program.code ≡ prior ++ (nodes ++ more)
  pub number : length prior ≡ from

-- sorts and operations are those of the data, and the variables in scope have the sorts of the site's
pub record AgreesWithData (theory : Theory) (c : Context) (vars : ℕ → Option ℕ) : Type 0 where
  pub sorts : c.sorts ≡ theory.sorts
  pub operations : c.operations ≡ theory.operations
  pub variables : (x : ℕ) → vars x ≡ slice_get (map (λ v. v.sort) c.variables) x

-- the program defines the process with as many gates, variables of these sorts, and this functionality
pub record HeadingAgrees (program : Program) (processes : ℕ → Functionality) (h : Heading) : Type 0 where
  pub formal : List ℕ
  pub variables : List Variable
  pub body : ℕ
  pub defined : slice_get program.code h.number ≡ Some (process formal variables body)
  pub gates : length formal ≡ h.gates
  pub sorts : h.sorts ≡ map (λ x. Some x.sort) variables
  pub functionality : h.functionality ≡ Some (processes h.number)

-- a construct that stands in this site may be a part of the program where these gates and variables are in scope
pub record Agrees (program : Program) (processes : ℕ → Functionality) (s : Site) (gates : List ℕ) (vars : ℕ → Option ℕ) : Type 0 where
  pub data_agrees : AgreesWithData program.theory s.context vars
  pub gates_in_scope : (g : ℕ) → s.first_gate ≤ g → g < next_gate s → IsGateInScope program gates g
  pub headings : Each (HeadingAgrees program processes) s.processes
