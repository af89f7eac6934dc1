use Rattle.candidate_composites.proofs.Placed.{sought_plans_are_known}
use Rattle.candidate_composites.proofs.laws.sought_plans_are_known.Goals as goal

pub returns : goal.returns
returns c = sought_plans_are_known
