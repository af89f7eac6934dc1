-- Nodes of one table that have copies in another.
use Rattle.std.specs.Prelude.{ℕ, ◌≡◌, List, Option, Some, None, length}
use Rattle.std.specs.List.{slice_index_or}
use Rattle.value_nodes.specs.declared.node.Node.{Node}
use Rattle.value_nodes.specs.Nodes.{node_tree, trees_of, tree_at, cost_of, cost_at, IsMade, IsNode}

-- the number of a node's copy, where it has one
abbrev pub copy_at : List (Option ℕ) → ℕ → Option ℕ
copy_at copies i = slice_index_or copies i None

-- a copy stands for the same term as its node and keeps the same, and each node of the new table is like one of the old one
pub record AreCopies (old new : List Node) (copies : List (Option ℕ)) : Type 0 where
  pub one_each : length copies ≡ length old
  pub same : (i n : ℕ) → copy_at copies i ≡ Some n → IsNode new n × (tree_at new n ≡ tree_at old i) × (cost_at new n ≡ cost_at old i)
  pub no_other : (n : ℕ) → IsNode new n → (i : ℕ) × IsNode old i × (tree_at new n ≡ tree_at old i) × (cost_at new n ≡ cost_at old i)

-- the row may follow in the new table, where it stands for the term of the old one's node and keeps the same
abbrev pub IsRowOf : List Node → List Node → ℕ → Node → Type 0
IsRowOf old new node row =
    IsMade (trees_of new) row × (node_tree (trees_of new) row ≡ tree_at old node) × (cost_of row ≡ cost_at old node)
