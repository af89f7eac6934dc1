use Rattle.decision_trees.proofs.Asking as lemmas
use Rattle.decision_trees.proofs.laws.decided_or_found.Goals as goal

pub returns : goal.returns
returns g c = lemmas.decided_or_found _ _ _
