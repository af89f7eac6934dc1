use Rattle.std.proofs.Common.{◌≡◌, drop, map}
use Rattle.symbolic_plans.specs.OpenPlans.{kind_in}
use Rattle.candidate_composites.specs.Joining.{is_offered}
use Rattle.candidate_composites.specs.Known.{found_of}
use Rattle.candidate_composites.proofs.joining.is_offered.Given as goal

abbrev pub invariant-loop-found : goal.invariant-loop-found
invariant-loop-found l =
    is_offered (kind_in l.kind) (map found_of l.those) ≡ is_offered (kind_in l.kind) (map found_of (drop l.found-index l.those))
