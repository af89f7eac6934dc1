use Rattle.std.proofs.Common.{rules}
use Rattle.board_tree.proofs.Moving.{unsuited}
use Rattle.board_tree.proofs.operators.unsuited.Goals as goal

pub returns : goal.returns
returns c = record { moves = unsuited _ _ _ _ _ _ _ c.requires.operator c.requires.unsuited (search rules) }
