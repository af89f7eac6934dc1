use Rattle.std.proofs.Common.{◌≡◌}
use Rattle.std.specs.Fn.{iterate}
use Rattle.rule_model.specs.Derivations.{derivation_of}
use Rattle.symbolic_plans.specs.Plans.{put_row}
use Rattle.symbolic_plans.proofs.rules.run_over_part.Given as goal

abbrev pub invariant-loop-turn : goal.invariant-loop-turn
invariant-loop-turn l = derivation_of l.tree ≡ iterate (put_row l.row) l._turn (derivation_of l.initial.tree)
