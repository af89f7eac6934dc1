-- Values and what it costs to evaluate them again.
use Rattle.std.specs.Prelude.{ℕ, ◌<◌, List}
use Rattle.spec_core.specs.Terms.{TermTree, TermTrees, apply, width}
use Rattle.spec_core.specs.Theories.{Theory}
use Rattle.spec_core.specs.Evaluation.{Evaluates, Tries, EvaluationMeets, TriesMeet}
use Rattle.value_nodes.specs.declared.node.Node.{Node}
use Rattle.value_nodes.specs.Nodes.{tree_at, cost_at, IsNode}
use Rattle.value_nodes.specs.Sizes.{IsTooLarge}

-- the term evaluates to itself after so many uses of equations, and its evaluation meets nothing too large
pub record IsOwnValue (theory : Theory) (t : TermTree) (cost : ℕ) : Type 0 where
  pub evaluates : Evaluates theory t t cost
  pub small : (w : TermTree) → EvaluationMeets theory t w → IsTooLarge w → ⊥

-- the call of the operation over values comes to itself after so many uses of equations, and meets nothing too large
pub record StaysOver (theory : Theory) (f : ℕ) (vs : TermTrees) (cost : ℕ) : Type 0 where
  pub tries : Tries theory theory.equations f vs (apply f vs) cost
  pub small : (w : TermTree) → TriesMeet theory theory.equations f vs w → IsTooLarge w → ⊥

-- so does each call over fewer than n values, without a use
abbrev pub StaysShort : Theory → ℕ → ℕ → Type 0
StaysShort theory f n = (vs : TermTrees) → width vs < n → StaysOver theory f vs 0

-- each node stands for its own value, and keeps its cost
abbrev pub AreOwnValues : Theory → List Node → Type 0
AreOwnValues theory rows = (i : ℕ) → IsNode rows i → IsOwnValue theory (tree_at rows i) (cost_at rows i)
