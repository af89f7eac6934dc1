-- Sorts and operations (ISO 8807, ACT ONE). A sort is its name; an operation is its name, whether it stands before or between its
-- arguments, the sorts of its arguments and the sort of its result. Letters of ASCII are the same small or large.
use Rattle.std.specs.Prelude.{ℕ, Bool, true, false, ◌&&◌, List}
use Rattle.std.specs.List.{list_any}
use Rattle.std.specs.Str.{bytes_eq, str_to_ascii_lowercase}
use Rattle.std.specs.Cmp.Lexicographic.{pointwise}
use Rattle.lotos_ast.specs.declared.place.Place.{Place}
use Rattle.lotos_ast.specs.declared.token.Token.{Token}
use Rattle.type_contents.specs.declared.item_kind.ItemKind.{ItemKind}
use Rattle.type_contents.specs.declared.item_kind.ItemKind.TheVariants.{Sort, Prefix, Infix}
use Rattle.type_contents.specs.Lists.{each_once}

-- a name with its letters small: two names are one where these are equal
abbrev pub small : Token → List ℕ
small t = str_to_ascii_lowercase t.text

-- a sort or an operation
pub record Item : Type 0 where
  pub kind : ItemKind
  pub name : List ℕ
  -- of an operation: the sorts of its arguments, and then that of its result
  pub sorts : List (List ℕ)

abbrev pub is_same_kind : ItemKind → ItemKind → Bool
is_same_kind Sort Sort = true
is_same_kind Prefix Prefix = true
is_same_kind Infix Infix = true
is_same_kind _ _ = false

-- whether they have one kind and one name, whatever their sorts
abbrev pub has_same_name : Item → Item → Bool
has_same_name a b = is_same_kind a.kind b.kind && bytes_eq a.name b.name

-- whether two items are one
abbrev pub is_same_item : Item → Item → Bool
is_same_item a b = has_same_name a b && pointwise bytes_eq a.sorts b.sorts

abbrev pub is_sort : Item → Bool
is_sort x = is_same_kind x.kind ItemKind.Sort

-- whether the item is among these
abbrev pub is_in : List Item → Item → Bool
is_in all x = list_any (is_same_item x) all

-- the union of these items, each once
abbrev pub union : List Item → List Item
union all = each_once is_same_item all

-- an item as a type brings it in
pub record Described : Type 0 where
  pub item : Item
  -- its name as it is written
  pub spelled : List ℕ
  -- whether its declaration marks it as a constructor
  pub marked : Bool
  -- where it is declared
  pub place : Place

abbrev pub item_of : Described → Item
item_of d = d.item

abbrev pub is_same_described : Described → Described → Bool
is_same_described d e = is_same_item d.item e.item

-- each item once: the first description stands
abbrev pub firsts : List Described → List Described
firsts all = each_once is_same_described all
