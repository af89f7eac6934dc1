use Rattle.std.proofs.Common.{◌≡◌, ◌++◌, map}
use Rattle.symbolic_plans.specs.OpenPlans.{open_plan_of, under_row}
use Rattle.symbolic_plans.proofs.operators.put_under.Given as goal

abbrev pub invariant-loop-composite : goal.invariant-loop-composite
invariant-loop-composite l =
    map open_plan_of l.all.items ≡ map open_plan_of l.initial.all.items ++ map (under_row l.row) (map open_plan_of l.yielded)
