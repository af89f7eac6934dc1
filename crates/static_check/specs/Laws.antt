-- What holds of compiled specifications.
use Rattle.std.specs.Prelude.{ℕ, ◌≡◌, ◌<◌, List, [], length, Option, Some, IsSome}
use Rattle.std.specs.List.{slice_get}
use Rattle.lotos_ast.specs.declared.spec.Spec.{Spec}
use Rattle.spec_core.specs.Code.{Node, Variable, process, Program}
use Rattle.spec_core.specs.Theories.{Theory}
use Rattle.static_processes.specs.Processes.{entries}
use Rattle.static_check.specs.Compiled.{IsCompiled, IsJudged}

-- the node of this number is a process
pub record IsProcessAt (code : List Node) (number : ℕ) : Type 0 where
  pub gates : List ℕ
  pub variables : List Variable
  pub body : ℕ
  pub at : slice_get code number ≡ Some (process gates variables body)

-- a compiled specification has as many processes as the text defines, and its first nodes are theirs
abbrev pub ProcessesStandFirst : Type 0
ProcessesStandFirst = (theory : Theory) (spec : Spec) (program : Program) → IsCompiled theory spec program →
    (program.processes ≡ length (entries spec)) × ((number : ℕ) → number < program.processes → IsProcessAt program.code number)

-- a specification of which nothing is refused comes to a program: all its behaviour is read
abbrev pub UnrefusedIsCompiled : Type 0
UnrefusedIsCompiled = (theory : Theory) (spec : Spec) (program : Option Program) → IsJudged theory spec program [] → IsSome program
