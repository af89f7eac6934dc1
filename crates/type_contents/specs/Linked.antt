-- What a type has, where it is known by their numbers of which types it is made.
use Rattle.std.specs.Prelude.{ℕ, List, ◌++◌, map, drop}
use Rattle.std.specs.List.{flat_map, slice_index_or}
use Rattle.lotos_ast.specs.declared.types.TypeDef.{TypeDef}
use Rattle.lotos_ast.specs.declared.types.TypeDef.TheVariants.{Library, Definition}
use Rattle.lotos_ast.specs.declared.types.TypeBody.{TypeBody}
use Rattle.lotos_ast.specs.declared.types.TypeBody.TheVariants.{Declared, Renamed, Actualized}
use Rattle.type_contents.specs.Items.{Item, item_of, union}
use Rattle.type_contents.specs.Own.{own_items, own_formals}
use Rattle.type_contents.specs.Images.{image, renaming_of}
use Rattle.type_contents.specs.Contents.{Content, no_content, kept}

abbrev pub items_at_number : List Content → ℕ → List Item
items_at_number table k = (slice_index_or table k no_content).items

abbrev pub formals_at_number : List Content → ℕ → List Item
formals_at_number table k = (slice_index_or table k no_content).formals

-- the source of a copy is the first
abbrev pub source_of : List ℕ → ℕ
source_of linked = slice_index_or linked 0 0

abbrev pub items_linked : List Content → List ℕ → TypeBody → List Item
items_linked table linked (Declared place imports formals sorts operations equations) =
    flat_map (items_at_number table) linked ++ map item_of (own_items formals sorts operations)
items_linked table linked (Renamed place source pairs) = map (image (renaming_of pairs)) (items_at_number table (source_of linked))
items_linked table linked (Actualized place source actuals pairs) =
    flat_map (items_at_number table) (drop 1 linked) ++ kept (slice_index_or table (source_of linked) no_content) (renaming_of pairs)

abbrev pub formals_linked : List Content → List ℕ → TypeBody → List Item
formals_linked table linked (Declared place imports formals sorts operations equations) =
    flat_map (formals_at_number table) linked ++ map item_of (own_formals formals)
formals_linked table linked (Renamed place source pairs) = map (image (renaming_of pairs)) (formals_at_number table (source_of linked))
formals_linked table linked (Actualized place source actuals pairs) = flat_map (formals_at_number table) (drop 1 linked)

abbrev pub made_linked : List Content → List ℕ → TypeDef → Content
made_linked table linked (Library place names) = no_content
made_linked table linked (Definition place name body) = record {
  items = union (items_linked table linked body);
  formals =
      union (formals_linked table linked body);
}
