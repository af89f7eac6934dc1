use Rattle.std.proofs.Common.{subst}
use Rattle.board_tree.specs.Views as trees
use Rattle.board_laws.specs.NeededLaws.{FirstTreesSay}
use Rattle.board_laws.specs.Next.{AreSessionWindows}
use Rattle.node_trees.specs.Generations.{AreApart}
use Rattle.board_core.specs.contracts.board.Board.{the_view}
use Rattle.board_core.specs.Views.{BoardView, program, tree, pieces, windows}
use Rattle.board_core.proofs.Due as due
use Rattle.board_core.proofs.board.Board.first_trees_say.Goals as goal

pub returns-clause-say : goal.returns-clause-say
returns-clause-say c =
    subst (λ (z : BoardView). FirstTreesSay (program z) (windows z) (tree z) (pieces z)) c.self.view_is
    (due.first_trees_say (the_view c.self.inside) c.self.invariant.0.0 c.log_is_a_derivation.ensures.ready
    (subst (λ t. AreApart (trees.shape t)) c.tree.ensures c.generations_are_sound.ensures.apart) c.log_is_a_derivation.ensures.reached)

pub returns-clause-of_session : goal.returns-clause-of_session
returns-clause-of_session c =
    subst (λ (z : BoardView). AreSessionWindows (program z) z.settings (windows z)) c.self.view_is
    (due.of_session (the_view c.self.inside) c.self.invariant.0.0 c.log_is_a_derivation.ensures.ready
    (subst (λ t. AreApart (trees.shape t)) c.tree.ensures c.generations_are_sound.ensures.apart) c.log_is_a_derivation.ensures.reached)
