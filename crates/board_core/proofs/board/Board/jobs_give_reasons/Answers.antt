use Rattle.std.proofs.Common.{subst}
use Rattle.board_tree.specs.Views as trees
use Rattle.board_laws.specs.StoppingLaws.{GiveReasons}
use Rattle.node_trees.specs.Generations.{AreApart}
use Rattle.board_core.specs.contracts.board.Board.{the_view}
use Rattle.board_core.specs.Views.{BoardView, program, state, tree, pieces, windows}
use Rattle.board_core.proofs.Due as due
use Rattle.board_core.proofs.board.Board.jobs_give_reasons.Goals as goal

pub returns : goal.returns
returns c =
    subst (λ (z : BoardView). GiveReasons (program z) z.settings (windows z) (tree z) (pieces z) (state z)) c.self.view_is
    (due.jobs_give_reasons (the_view c.self.inside) c.self.invariant.0.0 c.log_is_a_derivation.ensures.ready
    (subst (λ t. AreApart (trees.shape t)) c.tree.ensures c.generations_are_sound.ensures.apart) c.log_is_a_derivation.ensures.reached)
