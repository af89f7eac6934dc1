use Rattle.std.proofs.Common.{◌≡◌, map}
use Rattle.symbolic_plans.specs.OpenPlans.{open_plan_of, plan_by_disabling}
use Rattle.symbolic_plans.proofs.operators.disable.Given as goal

abbrev pub invariant-loop-composite : goal.invariant-loop-composite
invariant-loop-composite l = map open_plan_of l.all.items ≡ map plan_by_disabling (map open_plan_of l.yielded)
