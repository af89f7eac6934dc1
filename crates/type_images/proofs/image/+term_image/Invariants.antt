use Rattle.std.proofs.Common.{◌≡◌, map, take}
use Rattle.spec_core.specs.Terms.{term_of}
use Rattle.type_images.specs.Images as images
use Rattle.type_images.proofs.image.+term_image.Given as goal

abbrev pub invariant-loop-arg : goal.invariant-loop-arg
invariant-loop-arg l = map term_of l.all.items ≡ map (images.term_image l.news) (map term_of (take l.arg-index l.arg-items))
