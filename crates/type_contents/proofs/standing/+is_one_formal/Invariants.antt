use Rattle.std.proofs.Common.{length}
use Rattle.type_contents.proofs.standing.+is_one_formal.Given as goal

abbrev pub decreases-is_one_formal : goal.decreases-is_one_formal
decreases-is_one_formal l = length l.numbers.now
