use Rattle.std.proofs.Common.{length}
use Rattle.type_copies.proofs.copy.+gets_any.Given as goal

abbrev pub decreases-gets_any : goal.decreases-gets_any
decreases-gets_any l = length l.news.now
