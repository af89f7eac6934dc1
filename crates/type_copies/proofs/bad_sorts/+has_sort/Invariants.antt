use Rattle.std.proofs.Common.{length}
use Rattle.type_copies.proofs.bad_sorts.+has_sort.Given as goal

abbrev pub decreases-has_sort : goal.decreases-has_sort
decreases-has_sort l = length l.changes.now
