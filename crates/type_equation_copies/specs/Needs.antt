-- Which types' equations a type's equations depend on.
use Rattle.std.specs.Prelude.{ℕ, List, [], ◌∷◌}
use Rattle.std.specs.List.{flat_map, slice_index_or}
use Rattle.lotos_ast.specs.declared.types.TypeDef.{TypeDef}
use Rattle.type_contents.specs.Uses.{links}
use Rattle.type_contents.specs.Numbering.{parts}

-- these and all of which they are made
abbrev pub with_parts : List (List ℕ) → List ℕ → List ℕ
with_parts table numbers = flat_map (λ k. k ∷ slice_index_or table k []) numbers

-- the numbers of the types of which a type is made, and of all of which these are made
abbrev pub needs : List TypeDef → TypeDef → List ℕ
needs types d = with_parts (parts types) (links types d)
