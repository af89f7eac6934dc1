use Rattle.candidate_verdicts.proofs.Verdicts.{pieces_outlive_steps}
use Rattle.candidate_verdicts.proofs.laws.pieces_outlive_steps.Goals as goal

pub returns : goal.returns
returns c = pieces_outlive_steps
