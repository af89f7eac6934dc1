-- Copies of types under new names.
use Rattle.std.specs.Prelude.{Bool, ◌&&◌, not, List, map}
use Rattle.std.specs.List.{list_any}
use Rattle.type_contents.specs.Items.{Item}
use Rattle.type_contents.specs.Images.{Renaming, NewOperation, renames, has_formal_name, kept_image}

-- an item and what becomes of it
pub record Change : Type 0 where
  pub item : Item
  pub image : Item

pub record Copy : Type 0 where
  -- the items that are copied
  pub changes : List Change
  -- those that are replaced by items of other types, and so get no new name: the formal ones, where the copy is an actualisation
  pub replaced : List Item
  pub renaming : Renaming

abbrev pub change_in : List Item → Renaming → Item → Change
change_in replaced renaming x = record { item = x; image = kept_image replaced renaming x }

abbrev pub copy : List Item → List Item → Renaming → Copy
copy items replaced renaming = record { changes = map (change_in replaced renaming) items; replaced = replaced; renaming = renaming }

-- an operation gets a new name that is for its old one, unless a replaced operation has that name too: then the new one is for what
-- replaces that operation
abbrev pub gets : Copy → NewOperation → Item → Bool
gets copy n x = renames x n && not (has_formal_name copy.replaced x)

abbrev pub gets_any : Copy → List NewOperation → Item → Bool
gets_any copy news x = list_any (λ n. gets copy n x) news
