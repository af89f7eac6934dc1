use Rattle.std.proofs.Common.{rules, ◌≡◌, ◌∙◌, map, ap}
use Rattle.std.specs.Fn.{iterate}
use Rattle.spec_core.specs.Theories.{theory_of}
use Rattle.symbolic_plans.specs.Plans.{below, field_of, plan_of}
use Rattle.symbolic_rules.specs.Tables.{windows_in}
use Rattle.symbolic_trees.proofs.Trees.{none_counted, run_counted, some_counted, together_counted}
use Rattle.symbolic_trees.proofs.counts.+tree_count.Goals as goal

pub count_at_once-returns-in-None : goal.count_at_once-returns-in-None
count_at_once-returns-in-None t c = record {
  counted = none_counted (theory_of c.args.algebra.now) (windows_in c.args.windows.now) (map field_of c.args.columns.now)
      (plan_of c.args.part.now)
      c.args.choices.now (rw c.in-None.is at c.in_ok-nth_way.ensures.way);
}

pub count_at_once-returns-in_ok-each-in-Some : goal.count_at_once-returns-in_ok-each-in-Some
count_at_once-returns-in_ok-each-in-Some t c = record {
  counted = some_counted (theory_of c.args.algebra.now) (windows_in c.args.windows.now) (map field_of c.args.columns.now)
      (plan_of c.args.part.now)
      c.args.choices.now c.in-Some.first.items c.way_count.result c.in_ok-each-in-Some.each c.saturating_mul.result
      (rw c.in-Some.is at c.in_ok-nth_way.ensures.way) c.way_count.ensures.counted
      (rw c.deref.ensures.value at c.in_ok-each-in-Some.ensures.counted) c.saturating_mul.ensures;
}

pub both_count-returns : goal.both_count-returns
both_count-returns t c =
    together_counted (theory_of c.args.algebra.now) (windows_in c.args.windows.now) (plan_of c.args.left.now) (plan_of c.args.right.now)
    c.args.choices.now c.in_ok-lefts.lefts c.in_ok-rights.rights c.saturating_mul.result c.in_ok-lefts.ensures.counted
    c.in_ok-rights.ensures.counted c.saturating_mul.ensures

pub tree_count-returns-in-Under : goal.tree_count-returns-in-Under
tree_count-returns-in-Under t c =
    let row = c.in-Under.field-0 in
    let more = c.in-Under.field-1 in
    let part : c.in-Under.part.value ≡ c.deref-in-Under.result.now = search rules in
    record {
      counted = run_counted (theory_of c.args.algebra.now) (windows_in c.args.windows.now) row more (plan_of c.deref-in-Under.result.now)
          c.args.choices.now (plan_of c.args.scheme.now) c.tree_count.result
          (ap plan_of c.in-Under.is ∙ ap (λ s. below row (iterate (below row) more (plan_of s))) part) c.tree_count.ensures.counted;
    }
