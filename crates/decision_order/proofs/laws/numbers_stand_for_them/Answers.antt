use Rattle.decision_order.proofs.Numbers as lemmas
use Rattle.decision_order.proofs.laws.numbers_stand_for_them.Goals as goal

pub returns : goal.returns
returns g c = lemmas.numbers_stand_for_them _ _ _
