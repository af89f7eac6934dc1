-- The state of a run.
use Rattle.std.specs.Prelude.{ℕ, List, map}
use Rattle.spec_core.specs.Lists.{Each}
use Rattle.spec_core.specs.Terms.{TermTree}
use Rattle.spec_core.specs.Theories.{Theory}
use Rattle.value_nodes.specs.declared.node.Node.{Node}
use Rattle.value_nodes.specs.Nodes.{tree_at, IsNode, AreSmall}
use Rattle.value_nodes.specs.Own.{AreOwnValues}
use Rattle.value_nodes.specs.Sizes.{IsTooLarge}
use Rattle.rewriter.specs.declared.step.Step.{Step}
use Rattle.rewriter.specs.Machine.{Outcome, meets, Comes, AreCounted}
use Rattle.rewriter.specs.Steps.{task_of, IsStep}

-- what comes of steps over values, the next step and the last value first
abbrev pub Coming : Theory → List Node → List Step → List ℕ → Outcome → Type 0
Coming theory rows todo values o = Comes theory (map (task_of theory rows) todo) (map (tree_at rows) values) o

-- all numbers are of the table, each node stands for its own value, which isn't too large, and the calls among the steps are counted
pub record IsReady (theory : Theory) (rows : List Node) (todo : List Step) (there : List ℕ) (uses : ℕ) : Type 0 where
  pub steps : Each (IsStep theory rows) todo
  pub values : Each (IsNode rows) there
  pub own : AreOwnValues theory rows
  pub small : AreSmall rows
  pub counted : AreCounted theory uses (map (task_of theory rows) todo) (map (tree_at rows) there)

-- a value that is too large is met
abbrev pub MeetsLarge : (Outcome → Type 0) → Type 0
MeetsLarge P = (w : TermTree) × P (meets w) × IsTooLarge w
