use Rattle.std.proofs.Common.{map, sym, ◌∙◌}
use Rattle.spec_core.specs.Theories.{theory_of}
use Rattle.symbolic_plans.specs.Plans.{field_of, plan_of}
use Rattle.symbolic_rules.specs.Tables.{windows_in}
use Rattle.candidate_search.specs.Searches.{is_wanted, query_of}
use Rattle.candidate_search.proofs.Unmarked.{none_marked}
use Rattle.candidate_search.proofs.searches.next_among.Goals as goal

pub returns-then-not-branch-clause-next : goal.returns-then-not-branch-clause-next
returns-then-not-branch-clause-next c =
    none_marked (theory_of c.args.algebra.now) (windows_in c.args.windows.now) (is_wanted (query_of c.args.search.now))
    (map field_of c.args.composite.now.columns.items) (plan_of c.args.composite.now.scheme) c.args.choices.now c.args.from
    (c.wants_marks.ensures c.if-wants_marks.true)
    (sym (rw c.any_mark.ensures.any at c.in_ok-may_be_marked.ensures.marked) ∙ c.if-not-branch.true)
