use Rattle.std.proofs.Common.{◌≡◌, map}
use Rattle.type_contents.specs.Views.{item_of, described_of}
use Rattle.type_contents.specs.Items as items
use Rattle.type_contents.proofs.parts.items_declared.Given as goal

abbrev pub invariant-loop-one : goal.invariant-loop-one
invariant-loop-one l = map item_of l.all.items ≡ map items.item_of (map described_of l.yielded)
