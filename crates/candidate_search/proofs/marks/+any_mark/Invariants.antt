use Rattle.std.proofs.Common.{length}
use Rattle.candidate_search.proofs.marks.+any_mark.Given as goal

abbrev pub decreases-any_mark : goal.decreases-any_mark
decreases-any_mark l = length l.choices.now
