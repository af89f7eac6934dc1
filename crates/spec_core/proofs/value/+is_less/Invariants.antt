use Rattle.std.proofs.Common.{length}
use Rattle.spec_core.proofs.value.+is_less.Given as goal

abbrev pub decreases-is_less : goal.decreases-is_less
decreases-is_less l = length l.left.now
