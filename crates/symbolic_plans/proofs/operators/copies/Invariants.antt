use Rattle.std.proofs.Common.{◌≡◌, map, take}
use Rattle.symbolic_plans.specs.OpenPlans.{open_plan_of}
use Rattle.symbolic_plans.proofs.operators.copies.Given as goal

abbrev pub invariant-loop-composite : goal.invariant-loop-composite
invariant-loop-composite l = map open_plan_of l.all.items ≡ map open_plan_of (take l.composite-index l.composites)
