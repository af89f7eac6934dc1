-- What a step changes of a tree.
use Rattle.std.specs.Prelude.{ℕ, ◌↔◌, ◌⊎◌, List}
use Rattle.spec_core.specs.Lists.{IsOneOf}
use Rattle.node_trees.specs.declared.origin.Gen.{Gen}
use Rattle.node_trees.specs.Shapes.{Shape, over, between, shape_of, Lives}
use Rattle.board_tree.specs.declared.change.Change.{Change}
use Rattle.board_tree.specs.declared.change.Change.TheVariants.{Stays, Becomes, Over', Between'}

-- The changed tree. Where the change doesn't suit the tree, it stays.
abbrev pub changed : Change → Shape → Shape
changed Stays t = t
changed (Becomes new) t = shape_of new.value
changed (Over' p c) (over o x) = over o (changed c x)
changed (Between' p c q e) (between o x y) = between o (changed c x) (changed e y)
changed _ t = t

-- this holds of a part in whose place another stands, and of that one
abbrev pub AnyReplaced : (Shape → Shape → Type 0) → Change → Shape → Type 0
AnyReplaced R Stays t = ⊥
AnyReplaced R (Becomes new) t = R t (shape_of new.value)
AnyReplaced R (Over' p c) (over o x) = AnyReplaced R c x
AnyReplaced R (Between' p c q e) (between o x y) = AnyReplaced R c x ⊎ AnyReplaced R e y
AnyReplaced R _ t = ⊥

-- the generation lives in the first tree alone
abbrev pub IsOnlyIn : Shape → Shape → ℕ → Type 0
IsOnlyIn x y g = Lives x g × (Lives y g → ⊥)

-- the generation is one of a part in whose place another stands, and not of that one; and the other way round
abbrev pub EndsIn : Change → Shape → ℕ → Type 0
EndsIn c t g = AnyReplaced (λ x y. IsOnlyIn x y g) c t

abbrev pub BeginsIn : Change → Shape → ℕ → Type 0
BeginsIn c t g = AnyReplaced (λ x y. IsOnlyIn y x g) c t

-- the second list has what the first has, and just these generations more
abbrev pub Adds : (ℕ → Type 0) → List Gen → List Gen → Type 0
Adds P old new = (g : Gen) → IsOneOf g new ↔ (IsOneOf g old ⊎ P g.0)
