use Rattle.candidate_count.proofs.Worked.{offers_are_as_worked}
use Rattle.candidate_count.proofs.laws.offers_are_as_worked.Goals as goal

pub returns : goal.returns
returns c = offers_are_as_worked
