use Rattle.std.proofs.Common.{◌≡◌, map, take}
use Rattle.spec_core.specs.Theories.{premise_of}
use Rattle.type_images.specs.Images as images
use Rattle.type_images.proofs.image.premise_images.Given as goal

abbrev pub invariant-loop-premise : goal.invariant-loop-premise
invariant-loop-premise l = map premise_of l.all.items ≡ map (images.premise_image l.news) (map premise_of (take l.premise-index l.premises))
