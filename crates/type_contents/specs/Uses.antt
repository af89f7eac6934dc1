-- The names of types, and of which types one is made.
use Rattle.std.specs.Prelude.{ℕ, Bool, false, List, [], ◌∷◌, map}
use Rattle.std.specs.List.{position_or_len}
use Rattle.std.specs.Str.{bytes_eq}
use Rattle.lotos_ast.specs.declared.token.Token.{Token}
use Rattle.lotos_ast.specs.declared.types.TypeDef.{TypeDef}
use Rattle.lotos_ast.specs.declared.types.TypeDef.TheVariants.{Library, Definition}
use Rattle.lotos_ast.specs.declared.types.TypeBody.{TypeBody}
use Rattle.lotos_ast.specs.declared.types.TypeBody.TheVariants.{Declared, Renamed, Actualized}
use Rattle.type_contents.specs.Lists.{listed}
use Rattle.type_contents.specs.Items.{small}

abbrev pub is_called : List ℕ → TypeDef → Bool
is_called name (Library place names) = false
is_called name (Definition place own body) = bytes_eq (small own) name

-- the number of the first type of this name, from 0; their number where there is none
abbrev pub number_of : List TypeDef → Token → ℕ
number_of types name = position_or_len (is_called (small name)) types

abbrev pub uses_by : TypeBody → List Token
uses_by (Declared place imports formals sorts operations equations) = listed imports
uses_by (Renamed place source pairs) = source ∷ []
uses_by (Actualized place source actuals pairs) = source ∷ actuals.items

-- the types of which a type is made, as they are named, in the order of mention
abbrev pub uses : TypeDef → List Token
uses (Library place names) = []
uses (Definition place name body) = uses_by body

-- their numbers
abbrev pub links : List TypeDef → TypeDef → List ℕ
links types d = map (number_of types) (uses d)
