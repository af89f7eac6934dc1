use Rattle.std.proofs.Common.{◌≡◌, map, take}
use Rattle.std.specs.List.{flat_map}
use Rattle.type_contents.specs.Numbering as numbering
use Rattle.type_contents.specs.Views.{described_of, items_at, renaming_view}
use Rattle.type_contents.proofs.brings.new_kept.Given as goal

abbrev pub invariant-loop-one : goal.invariant-loop-one
invariant-loop-one l = map described_of l.all.items ≡ flat_map (numbering.new_kept (items_at l.table l.formals) (renaming_view l.renaming)) (map described_of (take l.one-index l.entries))
