use Rattle.std.proofs.Common.{length}
use Rattle.board_tree.proofs.leaf.+acted_by.Given as goal

abbrev pub decreases-acted_by : goal.decreases-acted_by
decreases-acted_by l = length l.ways.now
