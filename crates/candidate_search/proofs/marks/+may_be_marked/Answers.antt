use Rattle.std.proofs.Common.{rules, ◌≡◌, ◌∙◌, ap, false}
use Rattle.std.specs.Fn.{iterate}
use Rattle.spec_core.specs.Theories.{theory_of}
use Rattle.symbolic_rules.specs.Tables.{windows_in}
use Rattle.symbolic_plans.specs.Plans.{below, plan_of}
use Rattle.candidate_search.specs.Marks.{row_mark}
use Rattle.candidate_search.proofs.Unmarked.{run_marked}
use Rattle.candidate_search.proofs.marks.+may_be_marked.Goals as goal

pub may_be_marked-returns-else-row_mark : goal.may_be_marked-returns-else-row_mark
may_be_marked-returns-else-row_mark t c =
    let row = c.in-Under.row in
    let more = c.in-Under.field-1 in
    let none : row_mark row ≡ false = search rules in
    let part : c.in-Under.part.value ≡ c.deref.result.now = search rules in
    record {
      marked = run_marked (theory_of c.args.algebra.now) (windows_in c.args.windows.now) row more (plan_of c.deref.result.now)
          (plan_of c.args.scheme.now) c.args.given c.may_be_marked.result none
          (ap plan_of c.in-Under.is ∙ ap (λ s. below row (iterate (below row) more (plan_of s))) part) c.may_be_marked.ensures.marked;
    }
