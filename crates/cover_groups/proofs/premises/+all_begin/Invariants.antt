use Rattle.std.proofs.Common.{length}
use Rattle.cover_groups.proofs.premises.+all_begin.Given as goal

abbrev pub decreases-all_begin : goal.decreases-all_begin
decreases-all_begin l = length l.lists.now
