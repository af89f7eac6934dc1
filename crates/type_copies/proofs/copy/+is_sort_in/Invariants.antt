use Rattle.std.proofs.Common.{length}
use Rattle.type_copies.proofs.copy.+is_sort_in.Given as goal

abbrev pub decreases-is_sort_in : goal.decreases-is_sort_in
decreases-is_sort_in l = length l.items.now
