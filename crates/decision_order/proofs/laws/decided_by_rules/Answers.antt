use Rattle.decision_order.proofs.Deciding as lemmas
use Rattle.decision_order.proofs.laws.decided_by_rules.Goals as goal

pub returns : goal.returns
returns g c = lemmas.decided_by_rules _ _ _
