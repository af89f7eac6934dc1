use Rattle.std.proofs.Common.{◌≡◌, map, take}
use Rattle.spec_core.specs.Numbers.{sort_number}
use Rattle.type_images.specs.Images as images
use Rattle.type_images.proofs.numbers.sort_images.Given as goal

abbrev pub invariant-loop-sort : goal.invariant-loop-sort
invariant-loop-sort l = map sort_number l.all.items ≡ map (images.new_number l.news) (map sort_number (take l.sort-index l.sorts))
