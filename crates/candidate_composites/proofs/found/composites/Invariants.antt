use Rattle.std.proofs.Common.{◌≡◌, flat_map, map}
use Rattle.symbolic_plans.specs.OpenPlans.{open_plan_of}
use Rattle.candidate_composites.specs.Known.{found_of, plans_in}
use Rattle.candidate_composites.proofs.found.composites.Given as goal

abbrev pub invariant-loop-found : goal.invariant-loop-found
invariant-loop-found l = map open_plan_of l.all.items ≡ flat_map plans_in (map found_of l.yielded)
