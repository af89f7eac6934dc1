-- What becomes of sorts and operations in copies of types, by their numbers among all.
use Rattle.std.specs.Prelude.{ℕ, List, map, if◌then◌else◌}
use Rattle.lotos_ast.specs.declared.types.Pairs.{Pairs}
use Rattle.lotos_ast.specs.declared.types.TypeDef.{TypeDef}
use Rattle.type_contents.specs.Items.{Item, Described, is_in}
use Rattle.type_contents.specs.Images.{Renaming, renaming_of, image, kept_image}
use Rattle.type_contents.specs.Numbering.{all_sorts, all_operations, number_among}
use Rattle.type_images.specs.Images.{NewNumbers}

-- the image of an item in a copy in which these are replaced: of one that is replaced, what replaces it; the others are renamed
abbrev pub image_in : List Item → Renaming → Item → Item
image_in replaced renaming x = if is_in replaced x then image renaming x else kept_image replaced renaming x

-- of each item the number of its image among others
abbrev pub image_numbers : List Described → (Item → Item) → List Described → List ℕ
image_numbers all copy items = map (λ d. number_among all (copy d.item)) items

-- new numbers of all sorts and operations: those of their images among all
abbrev pub copy_numbers : List TypeDef → List Item → Pairs → NewNumbers
copy_numbers types replaced pairs = record {
  sorts = image_numbers (all_sorts types) (image_in replaced (renaming_of pairs)) (all_sorts types);
  operations = image_numbers (all_operations types) (image_in replaced (renaming_of pairs)) (all_operations types);
}
