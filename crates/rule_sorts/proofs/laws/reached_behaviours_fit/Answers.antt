use Rattle.rule_sorts.proofs.Reached.{reached_behaviours_fit}
use Rattle.rule_sorts.proofs.laws.reached_behaviours_fit.Goals as goal

pub returns : goal.returns
returns c = reached_behaviours_fit
