use Rattle.std.proofs.Common.{length}
use Rattle.candidate_count.proofs.counting.+tuple_count.Given as goal

abbrev pub decreases-tuple_count : goal.decreases-tuple_count
decreases-tuple_count l = length l.columns.now
