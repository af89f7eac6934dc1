use Rattle.std.proofs.Common.{◌≡◌, drop, map}
use Rattle.symbolic_plans.specs.OpenPlans.{kind_in}
use Rattle.candidate_composites.specs.Known.{step_of}
use Rattle.candidate_composites.specs.Staying.{stays}
use Rattle.candidate_composites.proofs.sought.stays.Given as goal

abbrev pub invariant-loop-step : goal.invariant-loop-step
invariant-loop-step l =
    stays (map step_of l.steps) (kind_in l.kind) ≡ stays (map step_of (drop l.step-index l.steps)) (kind_in l.kind)
