use Rattle.decision_trees.proofs.Asking as lemmas
use Rattle.decision_trees.proofs.laws.decided_is_so.Goals as goal

pub returns : goal.returns
returns g c = lemmas.decided_is_so _ _ _
