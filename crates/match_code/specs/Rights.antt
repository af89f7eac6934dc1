-- Right sides of equations in postfix order.
use Rattle.std.specs.Prelude.{ℕ, ◌≡◌, ◌<◌, List, [], ◌++◌, map, length, slice_index_or, Bool, false, IsTrue}
use Rattle.spec_core.specs.Executable.{IsExecutable}
use Rattle.spec_core.specs.Lists.{Each}
use Rattle.spec_core.specs.Terms.{TermTree, apply, Occurs}
use Rattle.spec_core.specs.Theories.{Theory, Heads}
use Rattle.value_nodes.specs.declared.node.Node.{Node}
use Rattle.rewriter.specs.Calls.{arguments_of, HasRoom}
use Rattle.rewriter.specs.Index.{IsIndex}
use Rattle.rewriter.specs.Machine.{Task, put, call, plan}
use Rattle.rewriter.specs.Steps.{equation_at, IsMatch, IsWithinArity}
use Rattle.match_code.specs.declared.rights.Symbol.{Symbol}
use Rattle.match_code.specs.declared.rights.Symbol.TheVariants.{Variable, Operation}
use Rattle.match_code.specs.declared.rights.Right.{Right}
use Rattle.match_code.specs.declared.rights.Forms.{Forms}

-- the task for which a symbol stands, under what the variables stand for
abbrev pub task_by : (ℕ → TermTree) → Symbol → Task
task_by s (Variable x) = put (s x)
task_by s (Operation op count) = call op.0 count

-- the symbol's variable, where it is one, is such a one
abbrev pub OnVariable : (ℕ → Type 0) → Symbol → Type 0
OnVariable P (Variable x) = P x
OnVariable P (Operation op count) = Unit {0}

-- the symbol's operation, where it is one, is such a one over so many arguments
abbrev pub OnOperation : (ℕ → ℕ → Type 0) → Symbol → Type 0
OnOperation P (Variable x) = Unit {0}
OnOperation P (Operation op count) = P op.0 count

-- the term in postfix order, these variables first: its symbols, one after another, are the tasks that evaluate it
pub record IsPostfix (t : TermTree) (first : List ℕ) (rest : List Symbol) : Type 0 where
  pub planned : (s : ℕ → TermTree) → map (λ x. put (s x)) first ++ map (task_by s) rest ≡ plan s t []
  pub first_there : Each (λ x. Occurs x t) first
  pub rest_there : Each (OnVariable (λ x. Occurs x t)) rest

-- the right side of an equation in postfix order, in which no operation has more arguments than it is declared with
pub record IsRight (theory : Theory) (right : Right) : Type 0 where
  pub there : right.place < length theory.equations
  pub postfix : IsPostfix (equation_at theory right.place).right right.first.items right.rest
  pub arities : Each (OnOperation (IsWithinArity theory)) right.rest

-- no equation of the operation has a premise
abbrev pub IsUnconditional : Theory → ℕ → Type 0
IsUnconditional theory f =
    (j : ℕ) → j < length theory.equations → Heads f (equation_at theory j) → (equation_at theory j).premises ≡ []

-- the operation is noted
abbrev pub IsNoted : List Bool → ℕ → Type 0
IsNoted noted f = IsTrue (slice_index_or noted f false)

-- only such operations are noted
abbrev pub AreUnconditional : Theory → List Bool → Type 0
AreUnconditional theory noted = (f : ℕ) → IsNoted noted f → IsUnconditional theory f

-- what is made once of the equations of executable data
pub record AreForms (theory : Theory) (forms : Forms) : Type 0 where
  pub executable : IsExecutable theory
  pub indexed : IsIndex theory forms.heads
  pub room : HasRoom theory forms.room
  pub unconditional : AreUnconditional theory forms.unconditional.items
  pub rights : Each (IsRight theory) forms.rights.items

-- the right side of an equation that matches an operation over so many values, where no equation of the operation has a premise
pub record IsRule (theory : Theory) (rows : List Node) (bound : List ℕ) (f count : ℕ) (there : List ℕ) (rule : Right) : Type 0 where
  pub right : IsRight theory rule
  pub unconditional : IsUnconditional theory f
  pub fits : IsMatch rows bound (equation_at theory rule.place).left (apply f (arguments_of rows count there))
