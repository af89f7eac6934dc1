use Rattle.std.proofs.Common.{◌≡◌, map, take}
use Rattle.type_contents.specs.Views.{described_of}
use Rattle.type_equation_copies.specs.Indexes.{item_at, items_in}
use Rattle.type_equation_copies.proofs.item_index.items_in.Given as goal

abbrev pub invariant-loop-one : goal.invariant-loop-one
invariant-loop-one l = map item_at l.items.items ≡ items_in (map described_of (take l.one-index l.all))
