use Rattle.decision_trees.proofs.Gaps as lemmas
use Rattle.decision_trees.proofs.laws.gaps_are_so.Goals as goal

pub returns : goal.returns
returns g c = lemmas.gaps_are_so _ _
