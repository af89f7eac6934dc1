use Rattle.std.proofs.Common.{◌≡◌, take, map}
use Rattle.type_contents.specs.Views.{items_at}
use Rattle.type_copies.specs.Views.{item_at}
use Rattle.type_copies.proofs.copy.items_at.Given as goal

abbrev pub invariant-loop-number : goal.invariant-loop-number
invariant-loop-number l = map item_at l.all.items ≡ items_at l.table (take l.number-index l.numbers)
