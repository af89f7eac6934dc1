use Rattle.std.proofs.Common.{length}
use Rattle.type_contents.proofs.described.+is_described.Given as goal

abbrev pub decreases-is_described : goal.decreases-is_described
decreases-is_described l = length l.all.now
