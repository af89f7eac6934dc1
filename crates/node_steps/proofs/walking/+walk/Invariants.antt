use Rattle.std.proofs.Common.{◌+◌, ◌*◌, max}
use Rattle.symbolic_plans.specs.Parts.{plan_of_part, rule_count}
use Rattle.symbolic_plans.specs.Plans.{plan_of}
use Rattle.node_steps.proofs.walking.+walk.Given as goal

abbrev pub decreases-walk : goal.decreases-walk
decreases-walk l = 3 * rule_count (plan_of_part l.part)

abbrev pub decreases-walk_under : goal.decreases-walk_under
decreases-walk_under l = 3 * rule_count (plan_of_part l.part) + 2

abbrev pub decreases-walk_within : goal.decreases-walk_within
decreases-walk_within l = 3 * rule_count (plan_of_part l.part) + 1

abbrev pub decreases-walk_both : goal.decreases-walk_both
decreases-walk_both l = 3 * max (rule_count (plan_of l.left.now)) (rule_count (plan_of l.right.now)) + 1
