use Rattle.std.proofs.Common.{◌≡◌, map, take}
use Rattle.type_contents.specs.Views.{new_sort_of}
use Rattle.type_contents.specs.Images as images
use Rattle.type_contents.proofs.images.new_sorts.Given as goal

abbrev pub invariant-loop-pair : goal.invariant-loop-pair
invariant-loop-pair l = map new_sort_of l.all.items ≡ map images.new_sort (take l.pair-index l.pairs)
