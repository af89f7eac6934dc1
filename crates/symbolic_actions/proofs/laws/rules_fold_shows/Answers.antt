use Rattle.symbolic_actions.proofs.Folding.{rules_fold_shows}
use Rattle.symbolic_actions.proofs.laws.rules_fold_shows.Goals as goal

pub returns : goal.returns
returns c = rules_fold_shows
