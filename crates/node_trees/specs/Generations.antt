-- Generations of nodes.
use Rattle.std.specs.Prelude.{ℕ, ◌≡◌, ◌≤◌, ◌<◌, List, None}
use Rattle.node_trees.specs.Shapes.{Held, Shape, Above, Stands}

-- no two nodes have one generation
abbrev pub AreApart : Shape → Type 0
AreApart t =
    (up vp : List Above) (m n : Held) → Stands t up m → Stands t vp n → m.generation ≡ n.generation → (up ≡ vp) × (m ≡ n)

-- each generation is below this number
abbrev pub AreBelow : Shape → ℕ → Type 0
AreBelow t next = (up : List Above) (n : Held) → Stands t up n → n.generation < next

-- generations go on from this number
pub record IsSound (t : Shape) (next : ℕ) : Type 0 where
  pub apart : AreApart t
  pub below : AreBelow t next

-- a new node, which waits: its generation is from low on, below high
pub record IsNew (low high : ℕ) (n : Held) : Type 0 where
  pub from : low ≤ n.generation
  pub below : n.generation < high
  pub waits : n.work ≡ None

-- a tree of new nodes
pub record IsFresh (low high : ℕ) (t : Shape) : Type 0 where
  pub more : low ≤ high
  pub apart : AreApart t
  pub new : (up : List Above) (n : Held) → Stands t up n → IsNew low high n
