use Rattle.std.proofs.Common.{length}
use Rattle.cover_groups.proofs.group.+longest.Given as goal

abbrev pub decreases-longest : goal.decreases-longest
decreases-longest l = length l.lists.now
