-- The numbers of types by name, as the code keeps them.
use Rattle.std.specs.Prelude.{ℕ, ◌≡◌, List, unwrap_or}
use Rattle.std.specs.List.{position_or_len}
use Rattle.indexmap.specs.IndexMap.{get_by_text}
use Rattle.lotos_ast.specs.declared.types.TypeDef.{TypeDef}
use Rattle.type_contents.specs.Uses.{is_called}
use Rattle.type_contents.specs.declared.type_index.TypeIndex.{TypeIndex}

-- the number under a name that is this text in small letters; how many types there are where there is none
abbrev pub number_at : TypeIndex → List ℕ → ℕ
number_at index name = unwrap_or (get_by_text index.numbers name) index.count

-- under each name stands the first type of that name
abbrev pub IsTypeIndexOf : TypeIndex → List TypeDef → Type 0
IsTypeIndexOf index types = (name : List ℕ) → number_at index name ≡ position_or_len (is_called name) types
