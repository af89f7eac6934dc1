use Rattle.std.proofs.Common.{length}
use Rattle.board_tree.proofs.operators.+put_handed.Given as goal

abbrev pub decreases-put_handed : goal.decreases-put_handed
decreases-put_handed l = length l.vars.now
