use Rattle.std.proofs.Common.{length}
use Rattle.type_copies.proofs.bad_operations.+is_any_misplaced.Given as goal

abbrev pub decreases-is_any_misplaced : goal.decreases-is_any_misplaced
decreases-is_any_misplaced l = length l.changes.now
