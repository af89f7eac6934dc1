use Rattle.candidate_verdicts.proofs.Sameness.{same_rules_are_one}
use Rattle.candidate_verdicts.proofs.laws.same_rules_are_one.Goals as goal

pub returns : goal.returns
returns c = same_rules_are_one
