use Rattle.std.proofs.Common.{length}
use Rattle.type_copies.proofs.bad_sorts.+has_old_sort.Given as goal

abbrev pub decreases-has_old_sort : goal.decreases-has_old_sort
decreases-has_old_sort l = length l.news.now
