use Rattle.std.proofs.Common.{◌≡◌, subst, Some}
use Rattle.board_tree.specs.Views as trees
use Rattle.decision_trees.specs.Rules.{Next}
use Rattle.rule_model.specs.Derivations.{Derivation}
use Rattle.rule_model.specs.States.{PendingOffer}
use Rattle.node_trees.specs.Generations.{AreApart}
use Rattle.board_core.specs.contracts.board.Board.{the_view}
use Rattle.board_core.specs.Settled.{IsDue}
use Rattle.board_core.specs.Views.{BoardView, decided_at}
use Rattle.board_core.proofs.Due as due
use Rattle.board_core.proofs.board.Board.decided_is_due.Goals as goal

pub returns : goal.returns
returns c =
    subst (λ (z : BoardView). (entry : Next PendingOffer Derivation) → decided_at z ≡ Some entry → IsDue z entry) c.self.view_is
    (due.decided_is_due (the_view c.self.inside) c.self.invariant.0.0 c.log_is_a_derivation.ensures.ready
    (subst (λ t. AreApart (trees.shape t)) c.tree.ensures c.generations_are_sound.ensures.apart) c.log_is_a_derivation.ensures.reached)
