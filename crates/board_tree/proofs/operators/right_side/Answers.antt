use Rattle.std.proofs.Common.{rules}
use Rattle.spec_core.specs.Code.{program_of}
use Rattle.board_tree.proofs.Moving.{moves_enabled, moves_unended, never_ends}
use Rattle.board_tree.proofs.operators.right_side.Goals as goal

pub returns-in-Exit : goal.returns-in-Exit
returns-in-Exit c =
    moves_enabled _ _ _ _ _ _ _ _ _ _ _ _ _ c.in-Exit.handed c.requires.shape c.requires.moves
    (search rules) (search rules) (search rules)

pub returns-in-Inner : goal.returns-in-Inner
returns-in-Inner c =
    moves_unended _ _ _ _ _ _ _ _ _ _ _ _ _ _ c.requires.shape c.requires.moves
    (never_ends (program_of c.args.checked.now) c.args.one.action (search rules)) (search rules)

pub returns : goal.returns
returns c =
    moves_unended _ _ _ _ _ _ _ _ _ _ _ _ _ _ c.requires.shape c.requires.moves
    (never_ends (program_of c.args.checked.now) c.args.one.action (search rules)) (search rules)
