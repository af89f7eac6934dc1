use Rattle.std.proofs.Common.{length}
use Rattle.value_table.proofs.spelling.+push_reversed.Given as goal

abbrev pub decreases-push_reversed : goal.decreases-push_reversed
decreases-push_reversed l = length l.rows.now
