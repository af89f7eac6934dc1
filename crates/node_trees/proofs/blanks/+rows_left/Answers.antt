use Rattle.std.proofs.Common.{rules, ◌≡◌, ◌∙◌, ap}
use Rattle.std.specs.Fn.{iterate}
use Rattle.symbolic_plans.specs.Plans.{below, plan_of}
use Rattle.node_trees.proofs.Listing.{too_few_for_run, too_few_below, left_below}
use Rattle.node_trees.proofs.blanks.+rows_left.Goals as goal

pub returns-in-None-clause-none : goal.returns-in-None-clause-none
returns-in-None-clause-none t c =
    too_few_for_run c.in-Under.row c.in-Under.more (plan_of c.in-Under.part.value) (plan_of c.args.scheme.now) (ap plan_of c.in-Under.is)
    c.args.count c.in-None.ensures.none

pub returns-in-Some-clause-some : goal.returns-in-Some-clause-some
returns-in-Some-clause-some t c =
    let row = c.in-Under.row in
    let more = c.in-Under.more in
    let part : c.in-Under.part.value ≡ c.deref.result.now = search rules in
    left_below row more (plan_of c.deref.result.now) (plan_of c.args.scheme.now)
    (ap plan_of c.in-Under.is ∙ ap (λ s. below row (iterate (below row) more (plan_of s))) part) c.args.count c.in-Some.rest
    c.rows_left.result c.in-Some.ensures.some c.rows_left.ensures.some

pub returns-in-Some-clause-none : goal.returns-in-Some-clause-none
returns-in-Some-clause-none t c =
    let row = c.in-Under.row in
    let more = c.in-Under.more in
    let part : c.in-Under.part.value ≡ c.deref.result.now = search rules in
    too_few_below row more (plan_of c.deref.result.now) (plan_of c.args.scheme.now)
    (ap plan_of c.in-Under.is ∙ ap (λ s. below row (iterate (below row) more (plan_of s))) part) c.args.count c.in-Some.rest
    c.rows_left.result c.in-Some.ensures.some c.rows_left.ensures.none
