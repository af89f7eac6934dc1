use Rattle.std.proofs.Common.{rules, ap, ◌∙◌}
use Rattle.board_tree.proofs.Moving.{moves_relabelled, moves_tidied}
use Rattle.board_tree.specs.Changes.{changed}
use Rattle.board_tree.proofs.operators.relabelled_step.Goals as goal

pub returns-then-stays : goal.returns-then-stays
returns-then-stays c =
    moves_relabelled _ _ _ _ _ _ _ _ _ _ _ c.requires.shape
    (ap (changed _) c.requires.shape ∙ c.in_ok-change.ensures.made _ _)
    (search rules) (search rules) c.requires.moves

pub returns : goal.returns
returns c =
    moves_tidied _ _ _ _ _ _ _ _ _ _ _ _ c.requires.shape (search rules) (search rules) c.requires.moves (search rules) (search rules)
