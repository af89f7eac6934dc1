use Rattle.candidate_verdicts.proofs.Known.{known_shows_are_so}
use Rattle.candidate_verdicts.proofs.laws.known_shows_are_so.Goals as goal

pub returns : goal.returns
returns c = known_shows_are_so
