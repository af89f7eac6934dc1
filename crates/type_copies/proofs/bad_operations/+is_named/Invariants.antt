use Rattle.std.proofs.Common.{length}
use Rattle.type_copies.proofs.bad_operations.+is_named.Given as goal

abbrev pub decreases-is_named : goal.decreases-is_named
decreases-is_named l = length l.changes.now
