use Rattle.std.proofs.Common.{◌≡◌, map}
use Rattle.symbolic_plans.specs.OpenPlans.{open_plan_of, plan_by_enabling}
use Rattle.symbolic_plans.proofs.operators.enable.Given as goal

abbrev pub invariant-loop-composite : goal.invariant-loop-composite
invariant-loop-composite l = map open_plan_of l.all.items ≡ map plan_by_enabling (map open_plan_of l.yielded)
