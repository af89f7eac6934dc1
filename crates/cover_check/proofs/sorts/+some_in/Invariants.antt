use Rattle.std.proofs.Common.{length}
use Rattle.cover_check.proofs.sorts.+some_in.Given as goal

abbrev pub decreases-some_in : goal.decreases-some_in
decreases-some_in l = length l.sorts.now
