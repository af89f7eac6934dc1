use Rattle.std.proofs.Common.{subst}
use Rattle.board_tree.specs.Views as trees
use Rattle.node_trees.specs.Generations.{AreApart}
use Rattle.board_core.specs.contracts.board.Board.{the_view}
use Rattle.board_core.specs.Working.{NeededChooseValues}
use Rattle.board_core.proofs.Due as due
use Rattle.board_core.proofs.board.Board.needed_jobs_choose_values.Goals as goal

pub returns : goal.returns
returns c =
    subst NeededChooseValues c.self.view_is
    (due.needed_choose_values (the_view c.self.inside) c.self.invariant.0.0 c.log_is_a_derivation.ensures.ready
    (subst (λ t. AreApart (trees.shape t)) c.tree.ensures c.generations_are_sound.ensures.apart) c.log_is_a_derivation.ensures.reached
    c.self.invariant.2 c.log_is_a_derivation.ensures.session)
