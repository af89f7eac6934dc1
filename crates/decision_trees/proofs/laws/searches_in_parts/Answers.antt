use Rattle.decision_trees.proofs.Parts as lemmas
use Rattle.decision_trees.proofs.laws.searches_in_parts.Goals as goal

pub returns : goal.returns
returns g c = lemmas.searches_in_parts _
