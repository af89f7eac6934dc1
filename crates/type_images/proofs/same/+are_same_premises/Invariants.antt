use Rattle.std.proofs.Common.{length}
use Rattle.type_images.proofs.same.+are_same_premises.Given as goal

abbrev pub decreases-are_same_premises : goal.decreases-are_same_premises
decreases-are_same_premises l = length l.left.now
