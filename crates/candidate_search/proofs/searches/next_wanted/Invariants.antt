use Rattle.std.proofs.Common.{◌≡◌, ◌≤◌, ◌-◌, map}
use Rattle.spec_core.specs.Theories.{theory_of}
use Rattle.symbolic_plans.specs.Plans.{field_of, plan_of}
use Rattle.symbolic_rules.specs.Tables.{windows_in}
use Rattle.symbolic_trees.specs.Numbers.{trees_at_once}
use Rattle.candidate_search.specs.Searches.{is_wanted, query_of, wanted_from}
use Rattle.candidate_search.proofs.searches.next_wanted.Given as goal

abbrev pub invariant-loop-number : goal.invariant-loop-number
invariant-loop-number l =
    let trees = trees_at_once (theory_of l.algebra) (windows_in l.windows) (map field_of l.columns) (plan_of l.scheme) l.choices in
    let wanted = is_wanted (query_of l.search) in
    (wanted_from wanted trees l.from ≡ wanted_from wanted trees l.number) × (l.from ≤ l.number)

abbrev pub decreases-loop-number : goal.decreases-loop-number
decreases-loop-number l = l.count - l.number
