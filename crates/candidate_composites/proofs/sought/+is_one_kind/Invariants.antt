use Rattle.std.proofs.Common.{length}
use Rattle.candidate_composites.proofs.sought.+is_one_kind.Given as goal

abbrev pub decreases-is_one_kind : goal.decreases-is_one_kind
decreases-is_one_kind l = length l.kinds.now
