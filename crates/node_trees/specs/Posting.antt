-- How a node is found to be expanded.
use Rattle.std.specs.Prelude.{ℕ, Bool, true, false, if◌then◌else◌, Option, Some, None}
use Rattle.node_trees.specs.Rests.{Work}
use Rattle.node_trees.specs.Shapes.{Held, Shape, leaf, ended, over, between, node_at, with_work}

abbrev pub is_there : Option Held → Bool
is_there None = false
is_there (Some n) = true

-- the first node of the generation, from the left, with this work
abbrev pub posted_first : ℕ → Work → Shape → Shape
posted_first g work (leaf n) = leaf (with_work g work n)
posted_first g work ended = ended
posted_first g work (over o x) = over o (posted_first g work x)
posted_first g work (between o x y) =
    if is_there (node_at g x) then between o (posted_first g work x) y else between o x (posted_first g work y)
