use Rattle.symbolic_plans.proofs.Origins.{own_plans_of_origins}
use Rattle.symbolic_plans.proofs.own_laws.own_plans_of_origins.Goals as goal

pub returns : goal.returns
returns c = own_plans_of_origins
