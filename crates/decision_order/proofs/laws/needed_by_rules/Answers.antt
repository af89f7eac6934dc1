use Rattle.decision_order.proofs.Needing as lemmas
use Rattle.decision_order.proofs.laws.needed_by_rules.Goals as goal

pub returns : goal.returns
returns g c = lemmas.needed_by_rules _ _ _
