-- Sets of names and of items, as the code keeps them.
use Rattle.std.specs.Prelude.{ℕ, ◌≡◌, Bool, ◌==◌, List, [], ◌∷◌, if◌then◌else◌}
use Rattle.std.specs.List.{list_any}
use Rattle.std.specs.Str.{bytes_eq}
use Rattle.indexmap.specs.IndexSet.{contains_text}
use Rattle.lotos_ast.specs.declared.refusal.Refusal.{Refusal}
use Rattle.lotos_ast.specs.declared.refusal.RefusalKind.{RefusalKind}
use Rattle.lotos_ast.specs.declared.token.Token.{Token}
use Rattle.lotos_ast.specs.declared.types.TypeDef.{TypeDef}
use Rattle.lotos_ast.specs.declared.types.TypeDef.TheVariants.{Library, Definition}
use Rattle.type_contents.specs.declared.item.Item.{Item}
use Rattle.type_contents.specs.Items as items
use Rattle.type_contents.specs.Items.{Described, small, is_same_item}
use Rattle.type_contents.specs.Views.{item_of}
use Rattle.type_names.specs.Refused.{refused}
use Rattle.type_names.specs.declared.item_set.ItemSet.{ItemSet}
use Rattle.type_names.specs.declared.name_set.NameSet.{NameSet}

-- whether a set has the name that is this text in small letters
abbrev pub has : NameSet → List ℕ → Bool
has set text = contains_text set.names text

-- a set has just these names
abbrev pub IsSetOf : NameSet → List Token → Type 0
IsSetOf set names = (text : List ℕ) → has set text ≡ list_any (λ t. bytes_eq (small t) text) names

-- a name that a set doesn't have is refused
abbrev pub unless_known : NameSet → Token → List Refusal
unless_known known t = if has known (small t) then [] else refused RefusalKind.UnknownType t.place ∷ []

-- the name of a type of the library, which stands in line 0
abbrev pub library_type_name : TypeDef → List Token
library_type_name (Library place names) = []
library_type_name (Definition place name body) = if name.place.line == 0 then name ∷ [] else []

-- whether a set has the item
abbrev pub has_item : ItemSet → items.Item → Bool
has_item set x = list_any (λ y. is_same_item x (item_of y)) set.items.keys

-- a set has just the items that are described
abbrev pub IsItemSetOf : ItemSet → List Described → Type 0
IsItemSetOf set ds = (x : Item) → has_item set (item_of x) ≡ list_any (λ d. is_same_item d.item (item_of x)) ds
