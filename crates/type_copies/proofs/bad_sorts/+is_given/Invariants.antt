use Rattle.std.proofs.Common.{length}
use Rattle.type_copies.proofs.bad_sorts.+is_given.Given as goal

abbrev pub decreases-is_given : goal.decreases-is_given
decreases-is_given l = length l.news.now
