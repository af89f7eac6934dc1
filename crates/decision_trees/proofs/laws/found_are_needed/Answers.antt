use Rattle.decision_trees.proofs.Needing as lemmas
use Rattle.decision_trees.proofs.laws.found_are_needed.Goals as goal

pub returns : goal.returns
returns g c = lemmas.found_are_needed _ _ _
