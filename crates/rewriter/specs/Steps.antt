-- The program's steps as the machine's tasks, and matches by which nodes stand for variables.
use Rattle.std.specs.Prelude.{ℕ, suc, ◌≡◌, ◌<◌, ◌≤◌, List, [], drop, length, Some}
use Rattle.std.specs.List.{slice_get, slice_index_or}
use Rattle.spec_core.specs.Terms.{TermTree, TermTrees, variable, apply, no_terms, and_term, width, instance, instances, Occurs, OccursInAny}
use Rattle.spec_core.specs.Theories.{Operation, ConditionalEquation, Theory}
use Rattle.value_nodes.specs.declared.node.Node.{Node}
use Rattle.value_nodes.specs.Nodes.{tree_at, IsNode}
use Rattle.rewriter.specs.declared.step.Step.{Step}
use Rattle.rewriter.specs.declared.step.Step.TheVariants.{Put, Call, Decide}
use Rattle.rewriter.specs.Machine.{Task, put, call, decide}

-- an equation for where there is none
abbrev pub no_equation : ConditionalEquation
no_equation = record { premises = []; left = variable 0; right = variable 0; sorts = []; names = []; line = 0; column = 0 }

-- the equation of this number
abbrev pub equation_at : Theory → ℕ → ConditionalEquation
equation_at theory i = slice_index_or theory.equations i no_equation

-- the node that stands for a variable
abbrev pub bound_at : List ℕ → ℕ → ℕ
bound_at bound x = slice_index_or bound x 0

-- what nodes put in the place of each variable
abbrev pub put_by : List Node → List ℕ → ℕ → TermTree
put_by rows bound x = tree_at rows (bound_at bound x)

-- the task for which a step stands
abbrev pub task_of : Theory → List Node → Step → Task
task_of theory rows (Put i) = put (tree_at rows i)
task_of theory rows (Call op count) = call op.0 count
task_of theory rows (Decide place next start) =
    decide (equation_at theory place) (drop next (equation_at theory place).premises) (drop (suc place) theory.equations) start

-- the operation is declared with no fewer arguments than these, if it is declared
abbrev pub IsWithinArity : Theory → ℕ → ℕ → Type 0
IsWithinArity theory f k = (d : Operation) → slice_get theory.operations f ≡ Some d → k ≤ length d.args

-- each operation of the term
abbrev mutual
  pub AreWithinArity : Theory → TermTree → Type 0
  AreWithinArity theory (variable x) = Unit {0}
  AreWithinArity theory (apply f ts) = IsWithinArity theory f (width ts) × AllWithinArity theory ts

  pub AllWithinArity : Theory → TermTrees → Type 0
  AllWithinArity theory no_terms = Unit {0}
  AllWithinArity theory (and_term t ts) = AreWithinArity theory t × AllWithinArity theory ts

-- the step's numbers are those of nodes and of equations, and an operation has no more arguments than it is declared with
abbrev pub IsStep : Theory → List Node → Step → Type 0
IsStep theory rows (Put i) = IsNode rows i
IsStep theory rows (Call op count) = IsWithinArity theory op.0 count
IsStep theory rows (Decide place next start) = place < length theory.equations

-- the step's node, where it has one, is of the table
abbrev pub IsHeld : List Node → Step → Type 0
IsHeld rows (Put i) = IsNode rows i
IsHeld rows (Call op count) = Unit {0}
IsHeld rows (Decide place next start) = Unit {0}

-- a pattern becomes a term, and its variables stand for nodes
pub record IsMatch (rows : List Node) (bound : List ℕ) (p t : TermTree) : Type 0 where
  pub fits : instance (put_by rows bound) p ≡ t
  pub nodes : (x : ℕ) → Occurs x p → IsNode rows (bound_at bound x)

-- patterns become terms, one by one
pub record AreMatch (rows : List Node) (bound : List ℕ) (ps ts : TermTrees) : Type 0 where
  pub fits : instances (put_by rows bound) ps ≡ ts
  pub nodes : (x : ℕ) → OccursInAny x ps → IsNode rows (bound_at bound x)
