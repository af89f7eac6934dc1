use Rattle.decision_trees.proofs.Gaps as lemmas
use Rattle.decision_trees.proofs.laws.parts_are_so.Goals as goal

pub returns : goal.returns
returns g c = lemmas.parts_are_so _ _ _
