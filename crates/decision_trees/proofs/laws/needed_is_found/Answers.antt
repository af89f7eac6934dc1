use Rattle.decision_trees.proofs.Needing as lemmas
use Rattle.decision_trees.proofs.laws.needed_is_found.Goals as goal

pub returns : goal.returns
returns g c = lemmas.needed_is_found _ _ _
