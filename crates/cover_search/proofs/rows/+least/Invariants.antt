use Rattle.std.proofs.Common.{length}
use Rattle.cover_search.proofs.rows.+least.Given as goal

abbrev pub decreases-least : goal.decreases-least
decreases-least l = length l.others.now
