use Rattle.std.proofs.Common.{◌≡◌, ◌++◌, map, filter, take}
use Rattle.symbolic_plans.specs.OpenPlans.{open_plan_of}
use Rattle.candidate_composites.specs.Contexts.{all_through, turns_of}
use Rattle.candidate_composites.specs.Joining.{joining_of}
use Rattle.candidate_composites.specs.Kept.{is_kept}
use Rattle.candidate_composites.specs.Known.{made, found_of, sought_in}
use Rattle.candidate_composites.proofs.known.put_own.Given as goal

abbrev pub invariant-loop-composite : goal.invariant-loop-composite
invariant-loop-composite l =
    map found_of l.all.items ≡
    map found_of l.initial.all.items ++ all_through (turns_of l.context)
    (map made (filter (λ p. is_kept (sought_in l.sought) (joining_of l.joining) p.kind) (map open_plan_of (take l.composite-index l.composites))))
