use Rattle.std.proofs.Common.{◌≡◌, map, string_bytes, take}
use Rattle.type_contents.specs.Views.{new_sort_of}
use Rattle.type_contents.specs.Images as images
use Rattle.type_contents.proofs.images.sort_images.Given as goal

abbrev pub invariant-loop-name : goal.invariant-loop-name
invariant-loop-name l = map (λ s. string_bytes s) l.all.items ≡ map (images.sort_image (map new_sort_of l.news)) (map (λ s. string_bytes s) (take l.name-index l.names))
