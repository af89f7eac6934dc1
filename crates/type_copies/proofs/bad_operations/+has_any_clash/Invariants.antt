use Rattle.std.proofs.Common.{length}
use Rattle.type_copies.proofs.bad_operations.+has_any_clash.Given as goal

abbrev pub decreases-has_any_clash : goal.decreases-has_any_clash
decreases-has_any_clash l = length l.changes.now
