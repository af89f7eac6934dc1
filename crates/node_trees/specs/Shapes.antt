-- Trees of nodes: operators over nodes, each of which stands for its origin.
use Rattle.std.specs.Prelude.{ℕ, ◌≡◌, ◌==◌, if◌then◌else◌, List, [], ◌∷◌, map, Option, Some, None}
use Rattle.spec_core.specs.Code.{Program, Variable, Relabelling, Synchronised, variable_of, relabelling_of, synchronised_of}
use Rattle.spec_core.specs.Lists.{Each}
use Rattle.spec_core.specs.Numbers.{gate_number}
use Rattle.rule_model.specs.Behaviours.{Behaviour, stop, choice, parallel, disable, hide, relabel, enable}
use Rattle.rule_model.specs.Substitution.{without, put}
use Rattle.rule_origins.specs.Parts.{behaviour_at}
use Rattle.rule_origins.specs.Values.{assignment}
use Rattle.node_trees.specs.declared.expansion.Expansion.{Expansion}
use Rattle.node_trees.specs.declared.node.Node.{Node}
use Rattle.node_trees.specs.declared.branch.Single.{Single}
use Rattle.node_trees.specs.declared.branch.Single.TheVariants.{Hide, Relabel, Enable}
use Rattle.node_trees.specs.declared.branch.Double.{Double}
use Rattle.node_trees.specs.declared.branch.Double.TheVariants.{Choice, Par, Disable}
use Rattle.node_trees.specs.declared.branch.Branch.{Branch}
use Rattle.node_trees.specs.declared.branch.Branch.TheVariants.{Leaf, Ended, Over', Between'}
use Rattle.node_trees.specs.Origins.{Source, source_of, meaning}
use Rattle.node_trees.specs.Rests.{Work, expansion_of, IsWayOf}

-- A node: its generation, its origin, and what its origin can do once it is expanded. One without that waits.
pub record Held : Type 0 where
  pub generation : ℕ
  pub source : Source
  pub work : Option Work

-- a node that waits
abbrev pub new_node : ℕ → Source → Held
new_node generation source = record { generation = generation; source = source; work = None }

-- an operator over one part: a hiding, a relabelling, and an enabling over its left side, with the right side's place in the code
pub data Unary : Type 0 where
  hidden : List ℕ → Unary
  relabelled : List Relabelling → Unary
  enabled : List Variable → ℕ → List (ℕ × List ℕ) → Unary

-- an operator over two parts
pub data Binary : Type 0 where
  choosing : Binary
  beside : Synchronised → Binary
  disabling : Binary

-- A tree of operators over nodes. What is left of an exit is over, and has no node.
pub data Shape : Type 0 where
  leaf : Held → Shape
  ended : Shape
  over : Unary → Shape → Shape
  between : Binary → Shape → Shape → Shape

abbrev pub work_of : Option Expansion → Option Work
work_of None = None
work_of (Some e) = Some (expansion_of e)

abbrev pub held_of : Node → Held
held_of n = record { generation = n.generation.0; source = source_of n.origin; work = work_of n.work }

abbrev pub unary_of : Single → Unary
unary_of (Hide gates) = hidden (map gate_number gates.items)
unary_of (Relabel pairs) = relabelled (map relabelling_of pairs.items)
unary_of (Enable vars right values) = enabled (map variable_of vars.items) right values.items

abbrev pub binary_of : Double → Binary
binary_of Choice = choosing
binary_of (Par gates) = beside (synchronised_of gates)
binary_of Disable = disabling

abbrev pub shape_of : Branch → Shape
shape_of (Leaf n) = leaf (held_of n)
shape_of Ended = ended
shape_of (Over' o p part) = over (unary_of o) (shape_of part)
shape_of (Between' o p left q right) = between (binary_of o) (shape_of left) (shape_of right)

-- the operator's construct over the behaviours of its parts
abbrev pub applied : Program → Unary → Behaviour → Behaviour
applied program (hidden gates) b = hide gates b
applied program (relabelled pairs) b = relabel pairs b
applied program (enabled xs right values) b =
    enable b xs (put (without xs (assignment program.theory values)) (behaviour_at program right))

abbrev pub joined : Binary → Behaviour → Behaviour → Behaviour
joined choosing b c = choice b c
joined (beside gates) b c = parallel gates b c
joined disabling b c = disable b c

-- The behaviour that a tree stands for: a node, whether it is expanded or waits, stands for its origin, and an operator for its construct.
abbrev pub stands_for : Program → Shape → Behaviour
stands_for program (leaf n) = meaning program n.source
stands_for program ended = stop
stands_for program (over o x) = applied program o (stands_for program x)
stands_for program (between o x y) = joined o (stands_for program x) (stands_for program y)

-- a construct above a node, with the side on which the node is
pub data Above : Type 0 where
  under : Unary → Above
  first_of : Binary → Above
  second_of : Binary → Above

-- under these constructs, from the root, stands this node
abbrev pub Stands : Shape → List Above → Held → Type 0
Stands (leaf m) [] n = m ≡ n
Stands (over o x) (under p ∷ up) n = (o ≡ p) × Stands x up n
Stands (between o x y) (first_of p ∷ up) n = (o ≡ p) × Stands x up n
Stands (between o x y) (second_of p ∷ up) n = (o ≡ p) × Stands y up n
Stands _ _ n = ⊥

-- the node is one of the tree's, and has this generation
pub record IsNodeOf (t : Shape) (g : ℕ) (n : Held) : Type 0 where
  pub up : List Above
  pub stands : Stands t up n
  pub same : n.generation ≡ g

-- a generation lives where a node has it
pub record Lives (t : Shape) (g : ℕ) : Type 0 where
  pub node : Held
  pub is : IsNodeOf t g node

-- the node of a generation, the first from the left
abbrev pub first_found : Option Held → Option Held → Option Held
first_found None b = b
first_found (Some n) b = Some n

abbrev pub node_at : ℕ → Shape → Option Held
node_at g (leaf n) = if n.generation == g then Some n else None
node_at g ended = None
node_at g (over o x) = node_at g x
node_at g (between o x y) = first_found (node_at g x) (node_at g y)

-- the node of this generation with this work, and each other node as it is
abbrev pub with_work : ℕ → Work → Held → Held
with_work g work n =
    if n.generation == g then record { generation = n.generation; source = n.source; work = Some work } else n

abbrev pub posted : ℕ → Work → Shape → Shape
posted g work (leaf n) = leaf (with_work g work n)
posted g work ended = ended
posted g work (over o x) = over o (posted g work x)
posted g work (between o x y) = between o (posted g work x) (posted g work y)

-- the ways of a node's work are ways of its origin to act
abbrev pub IsWorkOf : Program → Source → Option Work → Type 0
IsWorkOf program o None = Unit {0}
IsWorkOf program o (Some work) = Each (IsWayOf program (meaning program o)) work.ways

abbrev pub IsRight : Program → Shape → Type 0
IsRight program t = (up : List Above) (n : Held) → Stands t up n → IsWorkOf program n.source n.work

-- this is the work of the node of this generation
abbrev pub IsWorkFor : Program → Shape → ℕ → Work → Type 0
IsWorkFor program t g work = (n : Held) → IsNodeOf t g n → IsWorkOf program n.source (Some work)

-- every node waits
abbrev pub AllWait : Shape → Type 0
AllWait t = (up : List Above) (n : Held) → Stands t up n → n.work ≡ None
