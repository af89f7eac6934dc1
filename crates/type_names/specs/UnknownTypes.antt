-- Names of types without a definition.
use Rattle.std.specs.Prelude.{ℕ, Bool, false, ◌&&◌, ◌==◌, List, [], ◌∷◌, ◌++◌, if◌then◌else◌}
use Rattle.std.specs.List.{list_any, flat_map}
use Rattle.std.specs.Str.{bytes_eq}
use Rattle.lotos_ast.specs.declared.token.Token.{Token}
use Rattle.lotos_ast.specs.declared.refusal.Refusal.{Refusal}
use Rattle.lotos_ast.specs.declared.refusal.RefusalKind.{RefusalKind}
use Rattle.lotos_ast.specs.declared.types.TypeDef.{TypeDef}
use Rattle.lotos_ast.specs.declared.types.TypeDef.TheVariants.{Library, Definition}
use Rattle.type_contents.specs.Items.{small}
use Rattle.type_contents.specs.Uses.{is_called, uses}
use Rattle.type_names.specs.Refused.{refused}

-- a name that a type is made of, and that no type has, is refused
abbrev pub unknown_type : List TypeDef → Token → List Refusal
unknown_type types t = if list_any (is_called (small t)) types then [] else refused RefusalKind.UnknownType t.place ∷ []

-- the types of the library are those whose names stand in line 0
abbrev pub is_library_type : List ℕ → TypeDef → Bool
is_library_type name (Library place names) = false
is_library_type name (Definition place own body) = bytes_eq (small own) name && (own.place.line == 0)

-- the types of the library that are taken in, as they are named
abbrev pub library_names : TypeDef → List Token
library_names (Library place names) = names.items
library_names (Definition place name body) = []

-- a name in a library part that no type of the library has is refused
abbrev pub unknown_library : List TypeDef → Token → List Refusal
unknown_library types t = if list_any (is_library_type (small t)) types then [] else refused RefusalKind.UnknownType t.place ∷ []

abbrev pub unknown_types : List TypeDef → List Refusal
unknown_types types = flat_map (unknown_type types) (flat_map uses types) ++ flat_map (unknown_library types) (flat_map library_names types)
