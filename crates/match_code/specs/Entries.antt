-- Calls whose values are known.
use Rattle.std.specs.Prelude.{ℕ, List, reverse, map}
use Rattle.spec_core.specs.Lists.{Each}
use Rattle.spec_core.specs.Terms.{terms}
use Rattle.spec_core.specs.Theories.{Theory}
use Rattle.value_nodes.specs.declared.node.Node.{Node}
use Rattle.value_nodes.specs.Nodes.{tree_at, IsNode}
use Rattle.rewriter.specs.Machine.{Trying, ComesTo}
use Rattle.match_code.specs.declared.memo.Entry.{Entry}

-- the operation over what these nodes stand for comes to what this node stands for, after so many uses beside those of its arguments
pub record IsRemembered (theory : Theory) (rows : List Node) (f : ℕ) (args : List ℕ) (value uses : ℕ) : Type 0 where
  pub there : IsNode rows value
  pub comes : ComesTo (Trying theory theory.equations f (terms (map (tree_at rows) args))) (tree_at rows value) uses

-- an entry of a table
pub record IsEntry (theory : Theory) (rows : List Node) (entry : Entry) : Type 0 where
  pub args : Each (IsNode rows) entry.args
  pub known : IsRemembered theory rows entry.op.0 (reverse entry.args) entry.value entry.uses
