use Rattle.std.proofs.Common.{◌≡◌, map, take}
use Rattle.std.specs.List.{flat_map}
use Rattle.type_images.specs.Views.{numbers_of, shared_of}
use Rattle.type_equation_copies.specs.Contents as contents
use Rattle.type_equation_copies.proofs.equations.new_images.Given as goal

abbrev pub invariant-loop-equation : goal.invariant-loop-equation
invariant-loop-equation l = map shared_of l.all.items ≡ flat_map (contents.new_image (numbers_of l.news)) (map shared_of (take l.equation-index l.equations))
