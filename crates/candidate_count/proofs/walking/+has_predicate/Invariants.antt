use Rattle.std.proofs.Common.{◌+◌, ◌*◌}
use Rattle.symbolic_plans.specs.Parts.{plan_of_part, rule_count}
use Rattle.candidate_count.proofs.walking.+has_predicate.Given as goal

abbrev pub decreases-has_predicate : goal.decreases-has_predicate
decreases-has_predicate l = 2 * rule_count (plan_of_part l.part)

abbrev pub decreases-in_part : goal.decreases-in_part
decreases-in_part l = 2 * rule_count (plan_of_part l.part) + 1
