use Rattle.std.proofs.Common.{rules, ◌≡◌, ◌∙◌, ap}
use Rattle.std.specs.Fn.{iterate}
use Rattle.symbolic_plans.specs.Plans.{below, plan_of}
use Rattle.node_steps.proofs.Runs.{width_run}
use Rattle.node_steps.proofs.widths.+values_of.Goals as goal

pub returns-in_ok-own-in-Under : goal.returns-in_ok-own-in-Under
returns-in_ok-own-in-Under t c =
    let row = c.in-Under.row in
    let more = c.in-Under.more in
    let part : c.in-Under.part.value ≡ c.deref-in-Under.result.now = search rules in
    width_run row more (plan_of c.deref-in-Under.result.now) (plan_of c.args.scheme.now)
    (ap plan_of c.in-Under.is ∙ ap (λ s. below row (iterate (below row) more (plan_of s))) part) c.in_ok-own-in-Under.own
    c.in_ok-inner-in-Under.inner c.sum.result c.in_ok-own-in-Under.ensures c.in_ok-inner-in-Under.ensures c.sum.ensures
