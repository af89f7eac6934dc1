use Rattle.decision_trees.proofs.Asking as lemmas
use Rattle.decision_trees.proofs.laws.first_is_asked.Goals as goal

pub returns : goal.returns
returns g c = lemmas.first_is_asked _ _ _
