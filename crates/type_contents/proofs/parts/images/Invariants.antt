use Rattle.std.proofs.Common.{◌≡◌, map, take}
use Rattle.type_contents.specs.Views.{item_of, renaming_view, items_at}
use Rattle.type_contents.specs.Images as images
use Rattle.type_contents.proofs.parts.images.Given as goal

abbrev pub invariant-loop-number : goal.invariant-loop-number
invariant-loop-number l = map item_of l.all.items ≡ map (images.image (renaming_view l.renaming)) (items_at l.table (take l.number-index l.numbers))
