use Rattle.candidate_composites.proofs.Those.{known_plans_are_those}
use Rattle.candidate_composites.proofs.laws.known_plans_are_those.Goals as goal

pub returns : goal.returns
returns c = known_plans_are_those
