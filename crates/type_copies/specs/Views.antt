-- What the definitions see of the values of the code.
use Rattle.std.specs.Prelude.{map}
use Rattle.std.proofs.Common.{Bor}
use Rattle.type_contents.specs.Items as items
use Rattle.type_contents.specs.declared.item.Item.{Item}
use Rattle.type_contents.specs.Views.{item_of, renaming_view}
use Rattle.type_copies.specs.declared.copy.Change.{Change}
use Rattle.type_copies.specs.declared.copy.TypeCopy.{TypeCopy}
use Rattle.type_copies.specs.Copies as copies

abbrev pub item_at : Bor Item → items.Item
item_at x = item_of x.now

abbrev pub change_of : Change → copies.Change
change_of c = record { item = item_at c.item; image = item_of c.image }

abbrev pub copy_view : TypeCopy → copies.Copy
copy_view c = record {
  changes = map change_of c.changes.items;
  replaced = map item_at c.replaced.items;
  renaming =
      renaming_view c.renaming;
}
