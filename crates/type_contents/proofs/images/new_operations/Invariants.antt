use Rattle.std.proofs.Common.{◌≡◌, map, take}
use Rattle.type_contents.specs.Views.{new_operation_of}
use Rattle.type_contents.specs.Images as images
use Rattle.type_contents.proofs.images.new_operations.Given as goal

abbrev pub invariant-loop-pair : goal.invariant-loop-pair
invariant-loop-pair l = map new_operation_of l.all.items ≡ map images.new_operation (take l.pair-index l.pairs)
