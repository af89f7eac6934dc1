-- Parts of trees of rules.
use Rattle.std.specs.Prelude.{ℕ, suc, ◌+◌, ◌-◌, map}
use Rattle.std.specs.Fn.{iterate}
use Rattle.symbolic_plans.specs.declared.scheme.Scheme.{Scheme}
use Rattle.symbolic_plans.specs.declared.scheme.Scheme.TheVariants.{Under'}
use Rattle.symbolic_plans.specs.declared.part.SchemePart.{SchemePart}
use Rattle.symbolic_plans.specs.declared.part.FirstRule.{FirstRule}
use Rattle.symbolic_plans.specs.declared.part.FirstRule.TheVariants.{Pre, Int, Exit, Under, Hide, Enend, Both}
use Rattle.symbolic_plans.specs.Plans.{Plan, prefix, internal, termination, below, hidden, handed_on, together, field_of, plan_of}

-- the plan of a tree of rules, without so many rules of the run with which it begins, of which the last rule stays
abbrev pub plan_behind : Scheme → ℕ → Plan
plan_behind (Under' row more p part) passed = below row (iterate (below row) (more - passed) (plan_of part))
plan_behind s passed = plan_of s

-- the plan of a part
abbrev pub plan_of_part : SchemePart → Plan
plan_of_part part = plan_behind part.scheme.now part.passed

-- the plan that begins with this rule
abbrev pub plan_of_first : FirstRule → Plan
plan_of_first (Pre takes) = prefix takes.now
plan_of_first Int = internal
plan_of_first (Exit takes) = termination takes.now
plan_of_first (Under row part) = below row.now (plan_of_part part)
plan_of_first (Hide columns part) = hidden (map field_of columns.now) (plan_of part.now)
plan_of_first (Enend columns part) = handed_on (map field_of columns.now) (plan_of part.now)
plan_of_first (Both left right) = together (plan_of left.now) (plan_of right.now)

-- how many rules a plan has
abbrev pub rule_count : Plan → ℕ
rule_count (prefix takes) = 1
rule_count internal = 1
rule_count (termination takes) = 1
rule_count (below row p) = suc (rule_count p)
rule_count (hidden fields p) = suc (rule_count p)
rule_count (handed_on fields p) = suc (rule_count p)
rule_count (together p q) = suc (rule_count p + rule_count q)
