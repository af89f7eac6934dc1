use Rattle.std.proofs.Common.{◌≡◌, map}
use Rattle.spec_core.specs.Code.{relabelling_of}
use Rattle.symbolic_plans.specs.OpenPlans.{open_plan_of, under_relabelling}
use Rattle.symbolic_plans.proofs.operators.relabel.Given as goal

abbrev pub invariant-loop-composite : goal.invariant-loop-composite
invariant-loop-composite l =
    map open_plan_of l.all.items ≡ map (under_relabelling (map relabelling_of l.pairs)) (map open_plan_of l.yielded)
