use Rattle.std.proofs.Common.{length}
use Rattle.type_copies.proofs.bad_operations.+has_old_operation.Given as goal

abbrev pub decreases-has_old_operation : goal.decreases-has_old_operation
decreases-has_old_operation l = length l.news.now
