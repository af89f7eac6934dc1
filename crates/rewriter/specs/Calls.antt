-- A call in its middle.
use Rattle.std.specs.Prelude.{ℕ, suc, ◌≡◌, ◌+◌, ◌<◌, List, ◌∷◌, drop, map, length}
use Rattle.spec_core.specs.Lists.{Each}
use Rattle.spec_core.specs.Terms.{TermTree, TermTrees, apply, no_terms, width, Occurs}
use Rattle.spec_core.specs.Theories.{Theory, premise}
use Rattle.value_nodes.specs.declared.node.Node.{Node}
use Rattle.value_nodes.specs.Nodes.{tree_at, IsNode, AreSmall}
use Rattle.value_nodes.specs.Own.{AreOwnValues}
use Rattle.rewriter.specs.declared.step.Step.{Step}
use Rattle.rewriter.specs.Machine.{Outcome, Trying, Asking, Deciding, Through, top, Comes, decide, plan, Keeps, AreCountedAfter}
use Rattle.rewriter.specs.Steps.{equation_at, bound_at, put_by, task_of, IsStep, IsWithinArity}

-- there is room for each equation's variables
abbrev pub HasRoom : Theory → ℕ → Type 0
HasRoom theory room = (place : ℕ) → place < length theory.equations → (x : ℕ) → Occurs x (equation_at theory place).left → x < room

-- the equation's left side is this operation over so many patterns
abbrev pub IsCallOf : Theory → ℕ → ℕ → ℕ → Type 0
IsCallOf theory place f k = (ps : TermTrees) × ((equation_at theory place).left ≡ apply f ps) × (k ≡ width ps)

-- the variables of the equation's left side stand for nodes
abbrev pub AreNodes : Theory → List Node → List ℕ → ℕ → Type 0
AreNodes theory rows bound place = (x : ℕ) → Occurs x (equation_at theory place).left → IsNode rows (bound_at bound x)

-- so many values from the top, as arguments
abbrev pub arguments_of : List Node → ℕ → List ℕ → TermTrees
arguments_of rows k there = top k (map (tree_at rows) there) no_terms

-- what the equations from this one on make of an operation over so many values from the top, and then the rest
abbrev pub Pending : Theory → List Node → ℕ → ℕ → ℕ → List Step → List ℕ → Outcome → Type 0
Pending theory rows place f k todo there o =
    Through (Trying theory (drop place theory.equations) f (arguments_of rows k there))
    (λ w. Comes theory (map (task_of theory rows) todo) (w ∷ drop k (map (tree_at rows) there))) o

-- what an equation that matches makes of it, with its premises from this one on left to be asked, and then the rest
abbrev pub Wanting : Theory → List Node → List ℕ → ℕ → ℕ → ℕ → ℕ → List Step → List ℕ → Outcome → Type 0
Wanting theory rows bound place next f k todo there o =
    Through
    (Asking theory (drop next (equation_at theory place).premises) (equation_at theory place).right (put_by rows bound)
    (drop (suc place) theory.equations) f (arguments_of rows k there))
    (λ w. Comes theory (map (task_of theory rows) todo) (w ∷ drop k (map (tree_at rows) there))) o

-- the new steps are those that evaluate the sides of this premise of the equation and then decide, before the old ones
pub record ArePlanned (theory : Theory) (rows : List Node) (bound : List ℕ) (place next start : ℕ) (old new : List Step) : Type 0 where
  pub left : TermTree
  pub right : TermTree
  pub asks :
      drop next (equation_at theory place).premises ≡ premise left right ∷ drop (next + 1) (equation_at theory place).premises
  pub steps :
      map (task_of theory rows) new ≡
      plan (put_by rows bound) left
      (plan (put_by rows bound) right
      (decide (equation_at theory place) (drop (next + 1) (equation_at theory place).premises) (drop (suc place) theory.equations) start ∷
      map (task_of theory rows) old))

-- what comes of the values that are there, of which the last two are those of the sides of a premise of the equation, with its
-- premises from this one on left
abbrev pub Choosing : Theory → List Node → ℕ → ℕ → ℕ → List Step → List ℕ → Outcome → Type 0
Choosing theory rows place next start todo there o =
    Comes theory
    (decide (equation_at theory place) (drop next (equation_at theory place).premises) (drop (suc place) theory.equations) start ∷
    map (task_of theory rows) todo)
    (map (tree_at rows) there) o

-- the same with the two values over the others
abbrev pub Decided : Theory → List Node → ℕ → ℕ → ℕ → TermTree → TermTree → List Step → List ℕ → Outcome → Type 0
Decided theory rows place next start a b todo there o =
    Comes theory
    (decide (equation_at theory place) (drop next (equation_at theory place).premises) (drop (suc place) theory.equations) start ∷
    map (task_of theory rows) todo)
    (b ∷ a ∷ map (tree_at rows) there) o

-- what is left of a call: the equations from this one on
abbrev pub Left : Theory → List Node → ℕ → ℕ → ℕ → List ℕ → Outcome → Type 0
Left theory rows place f k there = Trying theory (drop place theory.equations) f (arguments_of rows k there)

-- the premises of an equation from this one on
abbrev pub Asked : Theory → List Node → List ℕ → ℕ → ℕ → ℕ → ℕ → List ℕ → Outcome → Type 0
Asked theory rows bound place next f k there =
    Asking theory (drop next (equation_at theory place).premises) (equation_at theory place).right (put_by rows bound)
    (drop (suc place) theory.equations) f (arguments_of rows k there)

-- a premise of an equation whose sides have these values
abbrev pub Judged : Theory → List Node → ℕ → ℕ → ℕ → ℕ → TermTree → TermTree → List ℕ → Outcome → Type 0
Judged theory rows place next f k a b there =
    Deciding theory (equation_at theory place) (drop next (equation_at theory place).premises) (drop (suc place) theory.equations) f
    (arguments_of rows k there) a b

-- The machine is in a call of this operation over so many values from the top, which began after so many uses, and of which P is left:
-- P keeps what the whole call comes to, and what is counted before it is counted after it. All else is as where it is ready.
pub record IsCalling (theory : Theory) (rows : List Node) (f k start : ℕ) (P : Outcome → Type 0) (todo : List Step) (there : List ℕ)
    (uses : ℕ) : Type 0 where
  pub steps : Each (IsStep theory rows) todo
  pub values : Each (IsNode rows) there
  pub own : AreOwnValues theory rows
  pub small : AreSmall rows
  pub arity : IsWithinArity theory f k
  pub begun : Keeps (Trying theory theory.equations f (arguments_of rows k there)) start P uses
  pub counted : AreCountedAfter theory P uses (map (task_of theory rows) todo) (drop k (map (tree_at rows) there))
