use Rattle.std.proofs.Common.{◌≡◌, ◌++◌, map, flat_map, take}
use Rattle.spec_core.specs.Code.{synchronised_of}
use Rattle.spec_core.specs.Theories.{theory_of}
use Rattle.symbolic_plans.specs.OpenPlans.{open_plan_of, plans_joint}
use Rattle.symbolic_plans.proofs.operators.put_all_joints.Given as goal

abbrev pub invariant-loop-composite : goal.invariant-loop-composite
invariant-loop-composite l =
    map open_plan_of l.all.items ≡
    map open_plan_of l.initial.all.items ++
    flat_map (λ p. flat_map (plans_joint (theory_of l.algebra) (synchronised_of l.gates) p) (map open_plan_of l.right))
    (map open_plan_of (take l.composite-index l.left))
