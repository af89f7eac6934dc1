use Rattle.std.proofs.Common.{◌≡◌, map, take}
use Rattle.std.specs.List.{flat_map}
use Rattle.type_contents.specs.Images as images
use Rattle.type_contents.specs.Numbering as numbering
use Rattle.type_contents.specs.Views.{described_of, renaming_view}
use Rattle.type_contents.proofs.brings.new_images.Given as goal

abbrev pub invariant-loop-one : goal.invariant-loop-one
invariant-loop-one l = map described_of l.all.items ≡ flat_map (numbering.new_image (images.described_image (renaming_view l.renaming))) (map described_of (take l.one-index l.entries))
