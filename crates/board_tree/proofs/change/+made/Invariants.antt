use Rattle.std.proofs.Common.{◌+◌, ◌*◌, max}
use Rattle.board_tree.specs.declared.change.Change.{size-Change}
use Rattle.board_tree.proofs.change.+made.Given as goal

abbrev pub decreases-Change::made : goal.decreases-Change::made
decreases-Change::made l = size-Change l.self.now * 2

abbrev pub decreases-made_over : goal.decreases-made_over
decreases-made_over l = size-Change l.change.now * 2 + 1

abbrev pub decreases-made_between : goal.decreases-made_between
decreases-made_between l = max (size-Change l.first.now) (size-Change l.second.now) * 2 + 1
