use Rattle.candidate_verdicts.proofs.Verdicts.{known_verdicts_are_so}
use Rattle.candidate_verdicts.proofs.laws.known_verdicts_are_so.Goals as goal

pub returns : goal.returns
returns c = known_verdicts_are_so
