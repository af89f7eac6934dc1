-- The contents of types: the sorts and operations that each type has (ISO 8807, ACT ONE).
use Rattle.std.specs.Prelude.{List, [], ◌∷◌, ◌++◌, map, if◌then◌else◌}
use Rattle.std.specs.List.{flat_map, slice_index_or}
use Rattle.lotos_ast.specs.declared.token.Token.{Token}
use Rattle.lotos_ast.specs.declared.types.TypeDef.{TypeDef}
use Rattle.lotos_ast.specs.declared.types.TypeDef.TheVariants.{Library, Definition}
use Rattle.lotos_ast.specs.declared.types.TypeBody.{TypeBody}
use Rattle.lotos_ast.specs.declared.types.TypeBody.TheVariants.{Declared, Renamed, Actualized}
use Rattle.type_contents.specs.Lists.{listed}
use Rattle.type_contents.specs.Items.{Item, item_of, is_in, union}
use Rattle.type_contents.specs.Own.{own_items, own_formals}
use Rattle.type_contents.specs.Images.{Renaming, renaming_of, image, kept_image}
use Rattle.type_contents.specs.Uses.{number_of}
use Rattle.type_contents.specs.Rounds as rounds

pub record Content : Type 0 where
  pub items : List Item
  -- those of the items that are left open
  pub formals : List Item

abbrev pub no_content : Content
no_content = record { items = []; formals = [] }

-- what the type of this name has, where each type has what the table says; nothing where there is no such type
abbrev pub content_of : List TypeDef → List Content → Token → Content
content_of types table name = slice_index_or table (number_of types name) no_content

abbrev pub items_of : List TypeDef → List Content → Token → List Item
items_of types table name = (content_of types table name).items

abbrev pub formals_of : List TypeDef → List Content → Token → List Item
formals_of types table name = (content_of types table name).formals

-- what is kept of an item where the formal ones are replaced: its image, unless it is formal
abbrev pub kept_one : List Item → Renaming → Item → List Item
kept_one formals renaming x = if is_in formals x then [] else kept_image formals renaming x ∷ []

abbrev pub kept : Content → Renaming → List Item
kept base renaming = flat_map (kept_one base.formals renaming) base.items

-- all that a type has by how it is made: its own and what its imports have; the images of what it copies; or, where formal items are
-- replaced, what the actual types have, and the images of what isn't formal. The image of a formal item is among what the actual types have
abbrev pub items_by : List TypeDef → List Content → TypeBody → List Item
items_by types table (Declared place imports formals sorts operations equations) = flat_map (items_of types table) (listed imports)
    ++ map item_of (own_items formals sorts operations)
items_by types table (Renamed place source pairs) = map (image (renaming_of pairs)) (items_of types table source)
items_by types table (Actualized place source actuals pairs) = flat_map (items_of types table) actuals.items
    ++ kept (content_of types table source) (renaming_of pairs)

-- what is left open in it
abbrev pub formals_by : List TypeDef → List Content → TypeBody → List Item
formals_by types table (Declared place imports formals sorts operations equations) = flat_map (formals_of types table) (listed imports)
    ++ map item_of (own_formals formals)
formals_by types table (Renamed place source pairs) = map (image (renaming_of pairs)) (formals_of types table source)
formals_by types table (Actualized place source actuals pairs) = flat_map (formals_of types table) actuals.items

abbrev pub made_from : List TypeDef → List Content → TypeDef → Content
made_from types table (Library place names) = no_content
made_from types table (Definition place name body) = record {
  items = union (items_by types table body);
  formals =
      union (formals_by types table body);
}

-- the content of each type
abbrev pub contents : List TypeDef → List Content
contents types = rounds.table no_content (made_from types) types
