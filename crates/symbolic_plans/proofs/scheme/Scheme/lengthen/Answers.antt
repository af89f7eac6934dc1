use Rattle.std.proofs.Common.{◌∙◌, ◌≡◌, ◌+◌, refl, sym, ap}
use Rattle.std.specs.Fn.{iterate}
use Rattle.symbolic_plans.specs.Plans.{plan_of, below}
use Rattle.symbolic_plans.proofs.Runs.{longer}
use Rattle.symbolic_plans.proofs.scheme.Scheme.lengthen.Goals as goal

pub returns-then-are_alike-clause-longer : goal.returns-then-are_alike-clause-longer
returns-then-are_alike-clause-longer c =
    let own = c.in-Under.own in
    let more = c.in-Under.more in
    let p = plan_of c.in-Under.field-2.value in
    let same : own ≡ c.args.row.now = c.are_alike.ensures c.if-are_alike.true in
    λ _.
    longer own more (more + 1) p refl ∙ ap (λ row. below row (below own (iterate (below own) more p))) same
    ∙ ap (below c.args.row.now) (sym (ap plan_of c.in-Under.is))
