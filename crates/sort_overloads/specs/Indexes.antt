-- The numbers of the operations of a name.
use Rattle.std.specs.Prelude.{ℕ, suc, ◌≡◌, List, [], ◌∷◌, ◌++◌, map, Vec, if◌then◌else◌}
use Rattle.std.specs.Char.{to_ascii_lowercase}
use Rattle.std.specs.Option.{option_map_or}
use Rattle.std.specs.declared.alloc.Global.{Global}
use Rattle.indexmap.specs.IndexMap.{get_by_text}
use Rattle.spec_core.specs.Theories.{Operation}
use Rattle.sort_overloads.specs.declared.name_index.NameIndex.{NameIndex}
use Rattle.sort_overloads.specs.Listed.{is_same_name}

-- the numbers of those of the operations that have the name, ascending, where the first operation has this number
abbrev pub numbers_from : List ℕ → ℕ → List Operation → List ℕ
numbers_from name f [] = []
numbers_from name f (d ∷ ds) = (if is_same_name d.name name then f ∷ [] else []) ++ numbers_from name (suc f) ds

abbrev pub numbers_of : List ℕ → List Operation → List ℕ
numbers_of name = numbers_from name 0

-- what an index has for a name in small letters
abbrev pub numbers_at : NameIndex → List ℕ → List ℕ
numbers_at index name = option_map_or (λ (numbers : Vec ℕ Global). numbers.items) (get_by_text index.numbers name) []

-- the index has for each name the numbers of the operations of that name
abbrev pub IsIndexOf : NameIndex → List Operation → Type 0
IsIndexOf index operations = (name : List ℕ) → numbers_at index (map to_ascii_lowercase name) ≡ numbers_of name operations
