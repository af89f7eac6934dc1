-- Checked specifications that can be run. (ISO 8807, static semantics; and this profile.)
use Rattle.std.specs.Prelude.{ℕ, ◌≡◌, ◌<◌, List, [], ◌∷◌, Some, length}
use Rattle.std.specs.List.{slice_get}
use Rattle.spec_core.specs.Lists.{Each, IsOneOf, NoTwo}
use Rattle.spec_core.specs.Theories.{Operation}
use Rattle.spec_core.specs.Sorts.{no_variables}
use Rattle.spec_core.specs.Executable.{IsExecutable}
use Rattle.spec_core.specs.Names.{IsSameName, IsIdentifier, IsOperationName}
use Rattle.spec_core.specs.Code.{Variable, Node, stop, exit, inner, action, choice, guarded, bound, value_choice, gate_choice, parallel}
use Rattle.spec_core.specs.Code.{hide, enable, disable, call, relabel, process, Program}
use Rattle.spec_core.specs.Functionality.{Functionality, HasFunctionality, ProcessFits}

-- two operations share name, argument sorts and result sort
abbrev pub IsSameOperation : Operation → Operation → Type 0
IsSameOperation d e = IsSameName d.name e.name × (d.args ≡ e.args) × (d.result ≡ e.result)

-- each name is one that the grammar allows there, and no two items share what tells them apart
pub record AreNamed (program : Program) : Type 0 where
  pub gates : Each IsIdentifier program.gates
  pub sorts : Each IsIdentifier program.theory.sorts
  pub operations : Each (λ d. IsOperationName (length d.args) d.name) program.theory.operations
  pub variables : Each (λ e. Each IsIdentifier e.names) program.theory.equations
  pub gates_differ : NoTwo IsSameName program.gates
  pub sorts_differ : NoTwo IsSameName program.theory.sorts
  pub operations_differ : NoTwo IsSameOperation program.theory.operations

-- the parts of a construct
abbrev pub parts_of : Node → List ℕ
parts_of stop = []
parts_of (exit fields) = []
parts_of (inner part) = part ∷ []
parts_of (action g fields guard rest) = rest ∷ []
parts_of (choice left right) = left ∷ right ∷ []
parts_of (guarded p part) = part ∷ []
parts_of (bound bindings part) = part ∷ []
parts_of (value_choice x part) = part ∷ []
parts_of (gate_choice g among part) = part ∷ []
parts_of (parallel synchronised left right) = left ∷ right ∷ []
parts_of (hide hidden part) = part ∷ []
parts_of (enable left xs right) = left ∷ right ∷ []
parts_of (disable left right) = left ∷ right ∷ []
parts_of (call p actual values) = []
parts_of (relabel relabelling part) = part ∷ []
parts_of (process formal xs body) = body ∷ []

-- a process's definition, and what is none
abbrev pub IsProcess : Node → Type 0
IsProcess (process formal xs body) = Unit {0}
IsProcess _ = ⊥

-- the number names a construct of behaviour
abbrev pub NamesBehaviour : Program → ℕ → Type 0
NamesBehaviour program part = (node : Node) × (slice_get program.code part ≡ Some node) × (IsProcess node → ⊥)

-- a call names a process
abbrev pub CallsProcess : Program → Node → Type 0
CallsProcess program (call p actual values) =
    (formal : List ℕ) × (xs : List Variable) × (body : ℕ) × (slice_get program.code p ≡ Some (process formal xs body))
CallsProcess program _ = Unit {0}

-- each part names a construct of behaviour, with a lower number unless it is a process's body, and a call names a process
pub record PartsFit (program : Program) (number : ℕ) (node : Node) : Type 0 where
  pub names : Each (NamesBehaviour program) (parts_of node)
  pub calls : CallsProcess program node
  pub below : (IsProcess node → ⊥) → Each (λ part. part < number) (parts_of node)

-- the parts that are reached before any action of the construct, and before the right side of an enabling
abbrev pub open_parts : Node → List ℕ
open_parts (inner part) = []
open_parts (action g fields guard rest) = []
open_parts (enable left xs right) = left ∷ []
open_parts node = parts_of node

abbrev pub IsCallOf : ℕ → Node → Type 0
IsCallOf p (call q actual values) = p ≡ q
IsCallOf p _ = ⊥

-- the part calls the process before any action
pub data CallsAtOnce (program : Program) (p : ℕ) : ℕ → Type 0 where
  here : {part : ℕ} (node : Node) → slice_get program.code part ≡ Some node → IsCallOf p node → CallsAtOnce program p part
  within : {part : ℕ} (node : Node) (inside : ℕ) →
      slice_get program.code part ≡ Some node →
      IsOneOf inside (open_parts node) →
      CallsAtOnce program p inside →
      CallsAtOnce program p part

-- a chain of such calls leads from the first process to the second
pub data LeadsAtOnce (program : Program) : ℕ → ℕ → Type 0 where
  one_call : {p q : ℕ} → CallsAtOnce program q p → LeadsAtOnce program p q
  more_calls : {p r : ℕ} (q : ℕ) → CallsAtOnce program q p → LeadsAtOnce program q r → LeadsAtOnce program p r

-- every cycle of calls passes an action prefix or the right side of an enabling
abbrev pub IsGuarded : Program → Type 0
IsGuarded program = (p : ℕ) → LeadsAtOnce program p p → ⊥

-- the specification's behaviour and each process fit, with one functionality for each process
pub record IsWellFormed (program : Program) : Type 0 where
  pub functionalities : ℕ → Functionality
  pub whole : Functionality
  pub start : HasFunctionality program functionalities [] no_variables program.start whole
  pub processes : (p : ℕ) (formal : List ℕ) (xs : List Variable) (body : ℕ) →
      slice_get program.code p ≡ Some (process formal xs body) →
      ProcessFits program functionalities p formal xs body

-- what every part of a run may rely on
pub record IsReady (program : Program) : Type 0 where
  pub executable : IsExecutable program.theory
  pub named : AreNamed program
  pub start : NamesBehaviour program program.start
  pub parts : (number : ℕ) (node : Node) → slice_get program.code number ≡ Some node → PartsFit program number node
  pub well_formed : IsWellFormed program
  pub guarded : IsGuarded program
