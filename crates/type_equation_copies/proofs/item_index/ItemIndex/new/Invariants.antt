use Rattle.std.proofs.Common.{◌≡◌, ◌+◌, ◌-◌, drop, length}
use Rattle.std.specs.List.{position_or_len}
use Rattle.type_contents.specs.declared.item.Item as code
use Rattle.type_contents.specs.Items.{is_same_item}
use Rattle.type_contents.specs.Views.{item_of}
use Rattle.type_equation_copies.specs.Indexes.{item_at, number_at}
use Rattle.type_equation_copies.proofs.item_index.ItemIndex.new.Given as goal

abbrev pub invariant-loop-behind : goal.invariant-loop-behind
invariant-loop-behind l = record {
  count : l.index.count ≡ length l.items;
  numbers : (x : code.Item) → number_at l.index x ≡ (length l.items - l.behind)
      + position_or_len (λ y. is_same_item (item_of x) (item_at y)) (drop (length l.items - l.behind) l.items);
}
