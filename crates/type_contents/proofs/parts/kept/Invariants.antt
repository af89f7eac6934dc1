use Rattle.std.proofs.Common.{◌≡◌, map, take}
use Rattle.std.specs.List.{flat_map}
use Rattle.type_contents.specs.Views.{item_of, renaming_view, items_at}
use Rattle.type_contents.specs.Contents.{kept_one}
use Rattle.type_contents.proofs.parts.kept.Given as goal

abbrev pub invariant-loop-number : goal.invariant-loop-number
invariant-loop-number l = map item_of l.all.items ≡ flat_map (kept_one (items_at l.table l.formals) (renaming_view l.renaming)) (items_at l.table (take l.number-index l.numbers))
