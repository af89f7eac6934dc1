use Rattle.std.proofs.Common.{map, ap}
use Rattle.symbolic_plans.specs.OpenPlans.{open_plan_of}
use Rattle.symbolic_plans.proofs.Joining.{three}
use Rattle.symbolic_plans.proofs.operators.parallel.Goals as goal

pub returns : goal.returns
returns c = record {
  parallel = three _ _ _ _ _ _ _ (ap (map open_plan_of) c.new-all.ensures.items) c.in_ok-put_alone.ensures c.in_ok-put_alone-2.ensures
      c.in_ok-put_all_joints.ensures;
}
