use Rattle.decision_trees.proofs.Following as lemmas
use Rattle.decision_trees.proofs.laws.decision_is_next.Goals as goal

pub returns : goal.returns
returns g c = lemmas.decision_is_next _ _ _
