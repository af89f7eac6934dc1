use Rattle.std.proofs.Common.{length}
use Rattle.cover_groups.proofs.premises.+has_empty.Given as goal

abbrev pub decreases-has_empty : goal.decreases-has_empty
decreases-has_empty l = length l.lists.now
