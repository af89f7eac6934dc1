use Rattle.std.proofs.Common.{length}
use Rattle.cover_check.proofs.sorts.+some_premise_asks.Given as goal

abbrev pub decreases-some_premise_asks : goal.decreases-some_premise_asks
decreases-some_premise_asks l = length l.premises.now
