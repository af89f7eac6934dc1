use Rattle.std.proofs.Common.{length, ◌≡◌, map, take}
use Rattle.type_contents.specs.Views.{item_of, items_at, AreWithin}
use Rattle.type_contents.proofs.item_table.ItemTable.numbers.Given as goal

abbrev pub invariant-loop-item : goal.invariant-loop-item
invariant-loop-item l = record {
  kept : take (length l.initial.self) l.self ≡ l.initial.self;
  items : items_at l.self l.all.items ≡ map item_of l.yielded;
  within : AreWithin (length l.self) l.all.items;
}
