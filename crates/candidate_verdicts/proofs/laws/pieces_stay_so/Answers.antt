use Rattle.candidate_verdicts.proofs.Staying.{pieces_stay_so}
use Rattle.candidate_verdicts.proofs.laws.pieces_stay_so.Goals as goal

pub returns : goal.returns
returns c = pieces_stay_so
