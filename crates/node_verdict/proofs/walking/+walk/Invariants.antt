use Rattle.std.proofs.Common.{◌+◌, ◌*◌, max}
use Rattle.rule_model.specs.declared.rules.Rules.{size-Rules}
use Rattle.node_verdict.proofs.walking.+walk.Given as goal

abbrev pub decreases-left_chosen : goal.decreases-left_chosen
decreases-left_chosen l = 3 * size-Rules l.part.now + 2

abbrev pub decreases-right_chosen : goal.decreases-right_chosen
decreases-right_chosen l = 3 * size-Rules l.part.now + 2

abbrev pub decreases-value_chosen : goal.decreases-value_chosen
decreases-value_chosen l = 3 * size-Rules l.part.now + 2

abbrev pub decreases-gate_chosen : goal.decreases-gate_chosen
decreases-gate_chosen l = 3 * size-Rules l.part.now + 2

abbrev pub decreases-guarded : goal.decreases-guarded
decreases-guarded l = 3 * size-Rules l.part.now + 2

abbrev pub decreases-bound : goal.decreases-bound
decreases-bound l = 3 * size-Rules l.part.now + 2

abbrev pub decreases-left_alone : goal.decreases-left_alone
decreases-left_alone l = 3 * size-Rules l.part.now + 2

abbrev pub decreases-right_alone : goal.decreases-right_alone
decreases-right_alone l = 3 * size-Rules l.part.now + 2

abbrev pub decreases-hidden : goal.decreases-hidden
decreases-hidden l = 3 * size-Rules l.part.now + 2

abbrev pub decreases-passed : goal.decreases-passed
decreases-passed l = 3 * size-Rules l.part.now + 2

abbrev pub decreases-before_end : goal.decreases-before_end
decreases-before_end l = 3 * size-Rules l.part.now + 2

abbrev pub decreases-handed_on : goal.decreases-handed_on
decreases-handed_on l = 3 * size-Rules l.part.now + 2

abbrev pub decreases-undisabled : goal.decreases-undisabled
decreases-undisabled l = 3 * size-Rules l.part.now + 2

abbrev pub decreases-ended : goal.decreases-ended
decreases-ended l = 3 * size-Rules l.part.now + 2

abbrev pub decreases-disabling : goal.decreases-disabling
decreases-disabling l = 3 * size-Rules l.part.now + 2

abbrev pub decreases-call_acts : goal.decreases-call_acts
decreases-call_acts l = 3 * size-Rules l.part.now + 2

abbrev pub decreases-renamed : goal.decreases-renamed
decreases-renamed l = 3 * size-Rules l.part.now + 2

abbrev pub decreases-together : goal.decreases-together
decreases-together l = 3 * max (size-Rules l.first.now) (size-Rules l.second.now) + 2

abbrev pub decreases-called : goal.decreases-called
decreases-called l = 3 * size-Rules l.part.now + 1

abbrev pub decreases-walk_renamed : goal.decreases-walk_renamed
decreases-walk_renamed l = 3 * size-Rules l.rules.now

abbrev pub decreases-walk : goal.decreases-walk
decreases-walk l = 3 * size-Rules l.rules.now
