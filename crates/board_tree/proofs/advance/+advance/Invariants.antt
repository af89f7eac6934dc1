use Rattle.std.proofs.Common.{◌+◌, ◌*◌, max}
use Rattle.rule_model.specs.declared.rules.Rules.{size-Rules}
use Rattle.board_tree.proofs.advance.+advance.Given as goal

abbrev pub decreases-advance : goal.decreases-advance
decreases-advance l = size-Rules l.rules.now * 3 + 2

abbrev pub decreases-advance_operator : goal.decreases-advance_operator
decreases-advance_operator l = size-Rules l.rules.now * 3 + 1

abbrev pub decreases-both_together : goal.decreases-both_together
decreases-both_together l = max (size-Rules l.d.now) (size-Rules l.e.now) * 3 + 3

abbrev pub decreases-enabling_step : goal.decreases-enabling_step
decreases-enabling_step l = size-Rules l.d.now * 3 + 3

abbrev pub decreases-disabling_step : goal.decreases-disabling_step
decreases-disabling_step l = size-Rules l.d.now * 3 + 3

abbrev pub decreases-enabling_ends : goal.decreases-enabling_ends
decreases-enabling_ends l = size-Rules l.d.now * 3 + 3

abbrev pub decreases-relabelling_step : goal.decreases-relabelling_step
decreases-relabelling_step l = size-Rules l.d.now * 3 + 3

abbrev pub decreases-taken_over : goal.decreases-taken_over
decreases-taken_over l = size-Rules l.d.now * 3 + 3

abbrev pub decreases-one_side : goal.decreases-one_side
decreases-one_side l = size-Rules l.d.now * 3 + 3

abbrev pub decreases-hiding_step : goal.decreases-hiding_step
decreases-hiding_step l = size-Rules l.d.now * 3 + 3
