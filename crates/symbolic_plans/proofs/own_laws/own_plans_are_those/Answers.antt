use Rattle.symbolic_plans.proofs.Own.{own_plans_are_those}
use Rattle.symbolic_plans.proofs.own_laws.own_plans_are_those.Goals as goal

pub returns : goal.returns
returns c = own_plans_are_those
