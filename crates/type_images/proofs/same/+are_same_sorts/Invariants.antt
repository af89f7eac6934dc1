use Rattle.std.proofs.Common.{length}
use Rattle.type_images.proofs.same.+are_same_sorts.Given as goal

abbrev pub decreases-are_same_sorts : goal.decreases-are_same_sorts
decreases-are_same_sorts l = length l.left.now
