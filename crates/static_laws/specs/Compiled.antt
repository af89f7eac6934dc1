-- Laws: what is read stands for what was written, and fits where it stands.
use Rattle.std.specs.Prelude.{◌≡◌, ℕ, ◌+◌, List, Option, Some}
use Rattle.std.specs.List.{slice_get}
use Rattle.lotos_ast.specs.declared.refusal.Refusal.{Refusal}
use Rattle.spec_core.specs.Code.{Node, Program}
use Rattle.spec_core.specs.Executable.{IsExecutable}
use Rattle.spec_core.specs.Functionality.{Functionality, HasFunctionality}
use Rattle.spec_core.specs.Lists.{Each, IsOneOf}
use Rattle.spec_core.specs.Ready.{PartsFit, NamesBehaviour, IsProcess, CallsAtOnce, AreNamed, IsReady}
use Rattle.spec_core.specs.Sorts.{HasSort}
use Rattle.spec_core.specs.Terms.{TermTree}
use Rattle.spec_core.specs.Theories.{Theory}
use Rattle.static_equations.specs.Laws.{IsOne}
use Rattle.sort_overloads.specs.Expressions.{Expression}
use Rattle.sort_overloads.specs.Readings.{Context, IsReading}
use Rattle.static_constructs.specs.Constructs.{Construct}
use Rattle.static_readings.specs.Joins.{Read, root}
use Rattle.static_readings.specs.Readings.{IsRead}
use Rattle.static_readings.specs.Sites.{Site}
use Rattle.type_cycles.specs.MadeFrom.{AreAcyclic}
use Rattle.static_call_cycles.specs.AtOnce.{calls_at_once}
use Rattle.static_call_cycles.specs.Unguarded.{called, links}
use Rattle.static_laws.specs.Assembled.{Placed, Definition, IsAssembled, calls_of}
use Rattle.static_laws.specs.Standing.{AgreesWithData, Agrees, HeadingAgrees, StandAt}

-- a reading of an expression is a term of its sort
abbrev pub ReadingsHaveSorts : Type 0
ReadingsHaveSorts = (theory : Theory) (c : Context) (vars : ℕ → Option ℕ) → AgreesWithData theory c vars →
    (e : Expression) (t : TermTree) (sort : ℕ) → IsReading c e t sort → HasSort theory vars t sort

-- a construct is read as one thing only where it stands, with one list of refusals
abbrev pub ConstructsAreOne : Type 0
ConstructsAreOne = (s : Site) (from : ℕ) (b : Construct) → IsOne (IsRead s from b)

-- Where a construct is read, and its nodes stand in a program with which its site agrees, the last of them stands for the construct: all
-- that it speaks of is in scope, its terms have their sorts, its calls fit, and it ends as it was read to end
abbrev pub ReadConstructsFit : Type 0
ReadConstructsFit = (program : Program) (processes : ℕ → Functionality) (s : Site) (from : ℕ) (b : Construct) (r : Read)
    (refusals : List Refusal) (gates : List ℕ) (vars : ℕ → Option ℕ) →
    IsRead s from b (Some r) refusals → Agrees program processes s gates vars → StandAt program from r.nodes →
    HasFunctionality program processes gates vars (root from r) r.functionality

-- Where a construct is read, and its nodes stand in a program that defines the processes of its site, each of them is a construct of
-- behaviour: its parts name constructs with lower numbers, and a call names a process
abbrev pub ReadNodesFit : Type 0
ReadNodesFit = (program : Program) (processes : ℕ → Functionality) (s : Site) (from : ℕ) (b : Construct) (r : Read)
    (refusals : List Refusal) → IsRead s from b (Some r) refusals → Each (HeadingAgrees program processes) s.processes →
    StandAt program from r.nodes → (k : ℕ) (node : Node) → slice_get r.nodes k ≡ Some node →
    PartsFit program (from + k) node × (IsProcess node → ⊥)

-- and so is the last of them
abbrev pub RootsNameBehaviour : Type 0
RootsNameBehaviour = (program : Program) (processes : ℕ → Functionality) (s : Site) (from : ℕ) (b : Construct) (r : Read)
    (refusals : List Refusal) → IsRead s from b (Some r) refusals → Each (HeadingAgrees program processes) s.processes →
    StandAt program from r.nodes → NamesBehaviour program (root from r)

-- Where a construct is read, and its nodes stand in a program, a process that the last of them calls at once is one that the construct
-- calls at once
abbrev pub CallsAtOnceAreWritten : Type 0
CallsAtOnceAreWritten = (program : Program) (s : Site) (from : ℕ) (b : Construct) (r : Read) (refusals : List Refusal) →
    IsRead s from b (Some r) refusals → StandAt program from r.nodes →
    (p : ℕ) → CallsAtOnce program p (root from r) → IsOneOf p (called (calls_at_once s b))

-- A program that is put together of constructs that are read is ready: where its data is executable, its names are those that the grammar
-- allows, and no process calls itself at once, directly or through others
abbrev pub AssembledIsReady : Type 0
AssembledIsReady = (program : Program) (processes : ℕ → Functionality) (ds : List Definition) (whole : Placed) →
    IsAssembled program processes ds whole → IsExecutable program.theory → AreNamed program → AreAcyclic (links (calls_of ds)) →
    IsReady program
