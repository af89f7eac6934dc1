use Rattle.candidate_verdicts.proofs.Missing.{missing_parts_are_missing}
use Rattle.candidate_verdicts.proofs.laws.missing_parts_are_missing.Goals as goal

pub returns : goal.returns
returns c = missing_parts_are_missing
