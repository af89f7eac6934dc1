-- The generations in which two trees differ.
use Rattle.std.specs.Prelude.{ℕ, ◌≡◌, ◌↔◌, Bool, nat_eq, if◌then◌else◌, List, [], ◌∷◌, ◌++◌}
use Rattle.indexmap.specs.IndexSet.{contains}
use Rattle.spec_core.specs.Lists.{IsOneOf}
use Rattle.node_trees.specs.declared.generations.Generations.{Generations}
use Rattle.node_trees.specs.declared.origin.Gen.{Gen}
use Rattle.node_trees.specs.Posting.{is_there}
use Rattle.node_trees.specs.Shapes.{Shape, leaf, ended, over, between, node_at, Lives}

-- the list has just the generations that live in the first tree and not in the second
abbrev pub IsDifference : List Gen → Shape → Shape → Type 0
IsDifference generations old new = (g : Gen) → IsOneOf g generations ↔ (Lives old g.0 × (Lives new g.0 → ⊥))

-- these generations, from the left
abbrev pub missing : Shape → Shape → List Gen
missing (leaf n) y = if is_there (node_at n.generation y) then [] else record { 0 = n.generation } ∷ []
missing ended y = []
missing (over o x) y = missing x y
missing (between o x z) y = missing x y ++ missing z y

-- whether a set has the generation
abbrev pub has : Generations → ℕ → Bool
has generations g = contains nat_eq generations.all g

-- a set has just the generations of the tree's nodes
abbrev pub AreGenerationsOf : Generations → Shape → Type 0
AreGenerationsOf generations t = (g : ℕ) → has generations g ≡ is_there (node_at g t)
