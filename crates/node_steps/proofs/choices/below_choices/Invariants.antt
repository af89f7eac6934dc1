use Rattle.std.proofs.Common.{◌≤◌}
use Rattle.spec_core.specs.Code.{program_of}
use Rattle.rule_origins.specs.Parts.{behaviour_at}
use Rattle.symbolic_plans.specs.Parts.{plan_of_part, rule_count}
use Rattle.node_steps.specs.Sides.{TurnsAlike, AsksAlike}
use Rattle.node_steps.proofs.choices.below_choices.Given as goal

abbrev pub invariant-loop-row : goal.invariant-loop-row
invariant-loop-row l = record {
  turns : TurnsAlike (program_of l.checked) (behaviour_at (program_of l.checked) l.number) (plan_of_part l.part)
      (behaviour_at (program_of l.checked) l.place) (plan_of_part l.rest);
  asks : AsksAlike (program_of l.checked) (behaviour_at (program_of l.checked) l.number) (plan_of_part l.part)
      (behaviour_at (program_of l.checked) l.place) (plan_of_part l.rest);
  shorter : rule_count (plan_of_part l.rest) ≤ rule_count (plan_of_part l.part);
}

abbrev pub decreases-loop-row : goal.decreases-loop-row
decreases-loop-row l = rule_count (plan_of_part l.rest)
