use Rattle.std.proofs.Common.{length}
use Rattle.type_copies.proofs.bad_operations.+is_any_clash.Given as goal

abbrev pub decreases-is_any_clash : goal.decreases-is_any_clash
decreases-is_any_clash l = length l.others.now
