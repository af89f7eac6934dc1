-- Tables of nodes, and the terms for which nodes stand.
use Rattle.std.specs.Prelude.{ℕ, ◌≡◌, ◌<◌, ◌≤◌, ◌+◌, List, [], ◌∷◌, ◌++◌, length}
use Rattle.std.specs.List.{slice_index_or}
use Rattle.spec_core.specs.Terms.{TermTree, TermTrees, variable, apply, no_terms, and_term}
use Rattle.value_nodes.specs.declared.node.Node.{Node}
use Rattle.value_nodes.specs.declared.node.Node.TheVariants.{Constant, One, More}
use Rattle.value_nodes.specs.Sizes.{symbols, IsTooLarge}

-- the arguments of a term
abbrev pub arguments : TermTree → TermTrees
arguments (variable x) = no_terms
arguments (apply f ts) = ts

-- the term has arguments
abbrev pub HasArguments : TermTree → Type 0
HasArguments t = arguments t ≡ no_terms → ⊥

-- the term is this operation over some arguments
abbrev pub IsOver : ℕ → TermTree → Type 0
IsOver f (variable x) = ⊥
IsOver f (apply g ts) = f ≡ g

-- the term is an operation over some arguments
abbrev pub IsWhole : TermTree → Type 0
IsWhole (variable x) = ⊥
IsWhole (apply g ts) = Unit {0}

-- the term at a place; a variable, where there is none
abbrev pub tree_in : List TermTree → ℕ → TermTree
tree_in ts i = slice_index_or ts i (variable 0)

-- what a node stands for, where those before it stand for these terms: its operation over no argument, over one, or over one and
-- the arguments of another node
abbrev pub node_tree : List TermTree → Node → TermTree
node_tree before (Constant op cost) = apply op.0 no_terms
node_tree before (One op size arg cost) = apply op.0 (and_term (tree_in before arg) no_terms)
node_tree before (More op size arg rest cost) = apply op.0 (and_term (tree_in before arg) (arguments (tree_in before rest)))

-- what a node keeps: how many uses of equations it costs to evaluate its term again
abbrev pub cost_of : Node → ℕ
cost_of (Constant op cost) = cost
cost_of (One op size arg cost) = cost
cost_of (More op size arg rest cost) = cost

-- what nodes stand for, each by those before it, where the first of all stand for these terms
abbrev pub trees_after : List TermTree → List Node → List TermTree
trees_after before [] = before
trees_after before (r ∷ rs) = trees_after (before ++ node_tree before r ∷ []) rs

-- what the nodes of a table stand for
abbrev pub trees_of : List Node → List TermTree
trees_of rows = trees_after [] rows

-- what the node of this number stands for
abbrev pub tree_at : List Node → ℕ → TermTree
tree_at rows i = tree_in (trees_of rows) i

-- what the node of this number keeps
abbrev pub cost_at : List Node → ℕ → ℕ
cost_at rows i = cost_of (slice_index_or rows i (Constant (record { 0 = 0 }) 0))

-- what nodes keep, all together
abbrev pub all_costs : List Node → List ℕ → ℕ
all_costs rows [] = 0
all_costs rows (i ∷ is) = cost_at rows i + all_costs rows is

-- the table has a node of this number
abbrev pub IsNode : List Node → ℕ → Type 0
IsNode rows i = i < length rows

-- a node is made of nodes before it, and has its number of symbols, which isn't too large
abbrev pub IsMade : List TermTree → Node → Type 0
IsMade before (Constant op cost) = Unit {0}
IsMade before (One op size arg cost) =
    (arg < length before) × (size ≡ symbols (node_tree before (One op size arg cost))) × (size ≤ 65536)
IsMade before (More op size arg rest cost) =
    (arg < length before) × (rest < length before) × (size ≡ symbols (node_tree before (More op size arg rest cost))) × (size ≤ 65536) ×
    HasArguments (tree_in before rest)

-- so is each node of a table
abbrev pub AreMade : List TermTree → List Node → Type 0
AreMade before [] = Unit {0}
AreMade before (r ∷ rs) = IsMade before r × AreMade (before ++ node_tree before r ∷ []) rs

-- what a node tells of the term at its place
abbrev pub IsSeen : List TermTree → ℕ → Node → Type 0
IsSeen ts i (Constant op cost) = tree_in ts i ≡ apply op.0 no_terms
IsSeen ts i (One op size arg cost) =
    (arg < length ts) × (tree_in ts i ≡ apply op.0 (and_term (tree_in ts arg) no_terms)) × (size ≡ symbols (tree_in ts i)) ×
    (size ≤ 65536)
IsSeen ts i (More op size arg rest cost) =
    (arg < length ts) × (rest < length ts) ×
    (tree_in ts i ≡ apply op.0 (and_term (tree_in ts arg) (arguments (tree_in ts rest)))) × (size ≡ symbols (tree_in ts i)) ×
    (size ≤ 65536) × HasArguments (tree_in ts rest)

-- a table with more nodes, in which the earlier ones stand for what they did and keep what they kept
pub record IsLonger (old new : List Node) : Type 0 where
  pub at_least : length old ≤ length new
  pub same : (i : ℕ) → IsNode old i → tree_at new i ≡ tree_at old i
  pub costs : (i : ℕ) → IsNode old i → cost_at new i ≡ cost_at old i

-- no node stands for a term with more than 65,536 symbols
abbrev pub AreSmall : List Node → Type 0
AreSmall rows = (i : ℕ) → IsNode rows i → IsTooLarge (tree_at rows i) → ⊥
