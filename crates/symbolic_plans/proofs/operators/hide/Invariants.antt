use Rattle.std.proofs.Common.{◌≡◌, map}
use Rattle.spec_core.specs.Numbers.{gate_number}
use Rattle.symbolic_plans.specs.OpenPlans.{open_plan_of, plan_by_hiding}
use Rattle.symbolic_plans.proofs.operators.hide.Given as goal

abbrev pub invariant-loop-composite : goal.invariant-loop-composite
invariant-loop-composite l = map open_plan_of l.all.items ≡ map (plan_by_hiding (map gate_number l.gates)) (map open_plan_of l.yielded)
