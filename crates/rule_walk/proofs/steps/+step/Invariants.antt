use Rattle.std.proofs.Common.{◌+◌, ◌*◌, max}
use Rattle.rule_model.specs.declared.rules.Rules.{size-Rules}
use Rattle.rule_walk.proofs.steps.+step.Given as goal

abbrev pub decreases-step : goal.decreases-step
decreases-step l = 3 * size-Rules l.rules.now

abbrev pub decreases-step_in : goal.decreases-step_in
decreases-step_in l = 3 * size-Rules l.part.now + 1

abbrev pub decreases-over_part : goal.decreases-over_part
decreases-over_part l = 3 * size-Rules l.part.now + 2

abbrev pub decreases-by_both : goal.decreases-by_both
decreases-by_both l = 3 * max (size-Rules l.part.now) (size-Rules l.other.now) + 2

abbrev pub decreases-by_value : goal.decreases-by_value
decreases-by_value l = 3 * size-Rules l.part.now + 2

abbrev pub decreases-by_gate : goal.decreases-by_gate
decreases-by_gate l = 3 * size-Rules l.part.now + 2

abbrev pub decreases-by_premise : goal.decreases-by_premise
decreases-by_premise l = 3 * size-Rules l.part.now + 2

abbrev pub decreases-by_bindings : goal.decreases-by_bindings
decreases-by_bindings l = 3 * size-Rules l.part.now + 2

abbrev pub decreases-by_call : goal.decreases-by_call
decreases-by_call l = 3 * size-Rules l.part.now + 2
