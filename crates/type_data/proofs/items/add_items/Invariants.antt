use Rattle.std.proofs.Common.{◌≡◌, ◌++◌, map, take}
use Rattle.type_contents.specs.Views.{items_at}
use Rattle.type_equation_copies.specs.Indexes.{item_at}
use Rattle.type_data.proofs.items.add_items.Given as goal

abbrev pub invariant-loop-number : goal.invariant-loop-number
invariant-loop-number l = map item_at l.all.items ≡ map item_at l.initial.all.items ++ items_at l.table (take l.number-index l.numbers)
