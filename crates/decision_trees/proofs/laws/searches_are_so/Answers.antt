use Rattle.decision_trees.proofs.Searching as lemmas
use Rattle.decision_trees.proofs.laws.searches_are_so.Goals as goal

pub returns : goal.returns
returns g c = lemmas.searches_are_so _ _ _ _ _
