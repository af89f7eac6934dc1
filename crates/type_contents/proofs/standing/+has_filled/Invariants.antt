use Rattle.std.proofs.Common.{length}
use Rattle.type_contents.proofs.standing.+has_filled.Given as goal

abbrev pub decreases-has_filled : goal.decreases-has_filled
decreases-has_filled l = length l.parts.now
