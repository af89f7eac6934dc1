use Rattle.std.proofs.Common.{length}
use Rattle.candidates.proofs.searching.+add_expansions.Given as goal

abbrev pub decreases-add_expansions : goal.decreases-add_expansions
decreases-add_expansions l = length l.gaps.now
