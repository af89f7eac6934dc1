use Rattle.std.proofs.Common.{rules, ◌≡◌, ◌∙◌, ap}
use Rattle.std.specs.Fn.{iterate}
use Rattle.symbolic_plans.specs.Plans.{below, plan_of}
use Rattle.node_trees.specs.Blanks.{own_rows}
use Rattle.node_trees.specs.Rests.{rows_of}
use Rattle.node_trees.proofs.Listing.{rows_first, whole_run}
use Rattle.node_trees.proofs.blanks.+put_blank_rows.Goals as goal

pub returns-in_ok-put_run_rows-in-Under : goal.returns-in_ok-put_run_rows-in-Under
returns-in_ok-put_run_rows-in-Under t c =
    let row = c.in-Under.row in
    let more = c.in-Under.more in
    let part : c.in-Under.part.value ≡ c.deref-in-Under.result.now = search rules in
    record {
      rows =
          whole_run row rows_of (own_rows row) (rows_first row) more (plan_of c.deref-in-Under.result.now) (plan_of c.args.scheme.now)
          (ap plan_of c.in-Under.is ∙ ap (λ s. below row (iterate (below row) more (plan_of s))) part) c.args.rows.now.items
          c.put_own_rows.new.rows.items c.put_run_rows.new.rows.items c.put_blank_rows.new.rows.items c.put_blank_rows.result
          c.in_ok-put_own_rows-in-Under.ensures c.in_ok-put_run_rows-in-Under.ensures c.put_blank_rows.ensures.rows;
    }
