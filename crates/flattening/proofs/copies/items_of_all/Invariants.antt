use Rattle.std.proofs.Common.{◌≡◌, take, map}
use Rattle.std.specs.List.{flat_map}
use Rattle.type_contents.specs.Contents.{items_of}
use Rattle.type_copies.specs.Views.{item_at}
use Rattle.flattening.proofs.copies.items_of_all.Given as goal

abbrev pub invariant-loop-name : goal.invariant-loop-name
invariant-loop-name l = map item_at l.all.items ≡ flat_map (items_of l.types l.contents) (take l.name-index l.names)
