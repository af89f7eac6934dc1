use Rattle.std.proofs.Common.{length}
use Rattle.match_code.proofs.matching.+seek.Given as goal

abbrev pub decreases-seek : goal.decreases-seek
decreases-seek l = length l.left.now
