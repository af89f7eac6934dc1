-- The numbers of items, as the code keeps them.
use Rattle.std.specs.Prelude.{ℕ, ◌≡◌, List, map, length, unwrap_or}
use Rattle.std.proofs.Common.{Bor}
use Rattle.std.specs.List.{position_or_len}
use Rattle.indexmap.specs.IndexMap.{get_by}
use Rattle.type_contents.specs.declared.item.Item as code
use Rattle.type_contents.specs.Items.{Item, Described, is_same_item}
use Rattle.type_contents.specs.Views.{item_of}
use Rattle.type_equation_copies.specs.declared.item_index.ItemIndex.{ItemIndex}

abbrev pub item_at : Bor code.Item → Item
item_at x = item_of x.now

-- the number that an index has for an item; how many items there are where it has none
abbrev pub number_at : ItemIndex → code.Item → ℕ
number_at index x = unwrap_or (get_by (λ k. is_same_item (item_of x) (item_at k)) index.numbers) index.count

-- the index has for each item its place among these, which is how many there are where it isn't among them
pub record IsIndexOf (index : ItemIndex) (items : List Item) : Type 0 where
  pub numbers : (x : code.Item) → number_at index x ≡ position_or_len (is_same_item (item_of x)) items
  pub count : index.count ≡ length items

-- the items of descriptions
abbrev pub items_in : List Described → List Item
items_in all = map (λ d. d.item) all
