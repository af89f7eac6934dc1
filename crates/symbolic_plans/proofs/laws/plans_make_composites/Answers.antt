use Rattle.symbolic_plans.proofs.Made.{plans_make_composites}
use Rattle.symbolic_plans.proofs.laws.plans_make_composites.Goals as goal

pub returns : goal.returns
returns c = plans_make_composites
