use Rattle.std.proofs.Common.{length}
use Rattle.symbolic_actions.proofs.field.+all_agreed.Given as goal

abbrev pub decreases-all_agreed : goal.decreases-all_agreed
decreases-all_agreed l = length l.left.now
