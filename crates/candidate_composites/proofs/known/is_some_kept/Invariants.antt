use Rattle.std.proofs.Common.{◌≡◌, map, filter, drop}
use Rattle.symbolic_plans.specs.OpenPlans.{open_plan_of}
use Rattle.candidate_composites.specs.Joining.{joining_of}
use Rattle.candidate_composites.specs.Kept.{is_kept}
use Rattle.candidate_composites.specs.Known.{made, has_made, sought_in}
use Rattle.candidate_composites.proofs.known.is_some_kept.Given as goal

abbrev pub invariant-loop-composite : goal.invariant-loop-composite
invariant-loop-composite l =
    has_made (map made (filter (λ p. is_kept (sought_in l.sought) (joining_of l.joining) p.kind) (map open_plan_of l.composites))) ≡
    has_made (map made
    (filter (λ p. is_kept (sought_in l.sought) (joining_of l.joining) p.kind) (map open_plan_of (drop l.composite-index l.composites))))
