use Rattle.std.proofs.Common.{◌≡◌, ◌++◌, map, flat_map, take}
use Rattle.spec_core.specs.Code.{synchronised_of}
use Rattle.spec_core.specs.Theories.{theory_of}
use Rattle.symbolic_plans.specs.OpenPlans.{open_plan_of, plans_joint}
use Rattle.symbolic_plans.proofs.operators.put_joints.Given as goal

abbrev pub invariant-loop-other : goal.invariant-loop-other
invariant-loop-other l =
    map open_plan_of l.all.items ≡
    map open_plan_of l.initial.all.items ++
    flat_map (plans_joint (theory_of l.algebra) (synchronised_of l.gates) (open_plan_of l.left))
    (map open_plan_of (take l.other-index l.right))
