use Rattle.decision_trees.proofs.Needing as lemmas
use Rattle.decision_trees.proofs.laws.found_after.Goals as goal

pub returns : goal.returns
returns g c = lemmas.found_after _ _ _ _
