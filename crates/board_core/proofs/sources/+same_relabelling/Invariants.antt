use Rattle.std.proofs.Common.{length}
use Rattle.board_core.proofs.sources.+same_relabelling.Given as goal

abbrev pub decreases-same_relabelling : goal.decreases-same_relabelling
decreases-same_relabelling l = length l.left.now
