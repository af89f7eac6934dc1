use Rattle.std.proofs.Common.{◌+◌, ◌*◌, map, take}
use Rattle.rule_model.specs.declared.rules.Slot.TheVariants.{Of}
use Rattle.rule_origins.specs.Parts.{behaviour_at}
use Rattle.symbolic_plans.specs.OpenPlans.{open_plan_of}
use Rattle.node_values.specs.Scopes.{marks_of}
use Rattle.match_code.specs.Prepared.{program_in}
use Rattle.expand.specs.Choosing.{ExpandsEach}
use Rattle.symbolic_rules.specs.Tables.{windows_in}
use Rattle.expand.proofs.walk.+walk.Given as goal

abbrev pub decreases-enter : goal.decreases-enter
decreases-enter l = 8 * (l.calls * 4294967296)

abbrev pub decreases-call_at : goal.decreases-call_at
decreases-call_at l = 8 * (l.calls * 4294967296) + 1

abbrev pub decreases-expand_construct : goal.decreases-expand_construct
decreases-expand_construct l = 8 * (l.calls * 4294967296 + l.number) + 2

abbrev pub decreases-expand_at : goal.decreases-expand_at
decreases-expand_at l = 8 * (l.calls * 4294967296 + l.node) + 3

abbrev pub decreases-add_choice : goal.decreases-add_choice
decreases-add_choice l = 8 * (l.calls * 4294967296 + l.body) + 4

abbrev pub decreases-add_value : goal.decreases-add_value
decreases-add_value l = 8 * (l.calls * 4294967296 + l.body) + 5

abbrev pub decreases-value_choice_at : goal.decreases-value_choice_at
decreases-value_choice_at l = 8 * (l.calls * 4294967296 + l.body) + 6

abbrev pub decreases-guard_at : goal.decreases-guard_at
decreases-guard_at l = 8 * (l.calls * 4294967296 + l.body) + 6

abbrev pub decreases-bound_at : goal.decreases-bound_at
decreases-bound_at l = 8 * (l.calls * 4294967296 + l.body) + 6

abbrev pub decreases-gate_choice_at : goal.decreases-gate_choice_at
decreases-gate_choice_at l = 8 * (l.calls * 4294967296 + l.body) + 6

abbrev pub invariant-value_choice_at-loop-value : goal.invariant-value_choice_at-loop-value
invariant-value_choice_at-loop-value l =
    ExpandsEach (program_in l.prepared) (windows_in l.windows) l.calls (marks_of (program_in l.prepared).theory l.scope)
    (record { number = l.x; sort = l.sort.0 }) (behaviour_at (program_in l.prepared) l.body) (map Of (take l.value-index l.values))
    (map open_plan_of l.all.composites.items) l.all.spread
