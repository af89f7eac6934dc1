-- Values that are spelled or compared part by part.
use Rattle.std.specs.Prelude.{ℕ, ◌≡◌, List, [], ◌∷◌, ◌++◌}
use Rattle.spec_core.specs.Terms.{preorder, preorders}
use Rattle.value_nodes.specs.declared.node.Node.{Node}
use Rattle.value_nodes.specs.declared.spelling.Part.{Part}
use Rattle.value_nodes.specs.declared.spelling.Part.TheVariants.{Whole as WholePart, Arguments as ArgumentsPart}
use Rattle.value_nodes.specs.declared.equality.Pair.{Pair}
use Rattle.value_nodes.specs.declared.equality.Pair.TheVariants.{Whole, Arguments}
use Rattle.value_nodes.specs.Nodes.{arguments, tree_at, IsNode}

-- the part's nodes are of the table
abbrev pub IsPart : List Node → Part → Type 0
IsPart rows (WholePart n) = IsNode rows n
IsPart rows (ArgumentsPart n) = IsNode rows n

-- the operations of a node, or of its arguments
abbrev pub word : List Node → Part → List ℕ
word rows (WholePart n) = preorder (tree_at rows n)
word rows (ArgumentsPart n) = preorders (arguments (tree_at rows n))

-- the operations of several parts, those of the last one first
abbrev pub words : List Node → List Part → List ℕ
words rows [] = []
words rows (p ∷ ps) = words rows ps ++ word rows p

-- the pair's nodes are of the table
abbrev pub IsPair : List Node → Pair → Type 0
IsPair rows (Whole a b) = IsNode rows a × IsNode rows b
IsPair rows (Arguments a b) = IsNode rows a × IsNode rows b

-- the two nodes stand for one term, or for terms with the same arguments
abbrev pub IsAlike : List Node → Pair → Type 0
IsAlike rows (Whole a b) = tree_at rows a ≡ tree_at rows b
IsAlike rows (Arguments a b) = arguments (tree_at rows a) ≡ arguments (tree_at rows b)
