use Rattle.std.proofs.Common.{◌≡◌, ◌++◌, filter, map, flat_map, take}
use Rattle.spec_core.specs.Code.{synchronised_of}
use Rattle.spec_core.specs.Theories.{theory_of}
use Rattle.symbolic_plans.specs.OpenPlans.{open_plan_of, plans_joint}
use Rattle.candidate_laws.specs.Sought.{as_another, sought_below}
use Rattle.candidate_composites.specs.Kept.{keeps}
use Rattle.candidate_composites.specs.Known.{made, found_of, sought_in, stepped}
use Rattle.candidate_composites.proofs.operators.put_each_partner.Given as goal

abbrev pub invariant-loop-part : goal.invariant-loop-part
invariant-loop-part l =
    map found_of l.all.items ≡
    map found_of l.initial.all.items ++
    flat_map (stepped (as_another (open_plan_of l.left).kind)
    (λ p. map made (plans_joint (theory_of l.algebra) (synchronised_of l.gates) (open_plan_of l.left) p)))
    (filter (keeps (sought_below (as_another (open_plan_of l.left).kind) (sought_in l.sought))) (map found_of (take l.part-index l.right)))
