use Rattle.std.proofs.Common.{◌∙◌, ◌≡◌, sym, ap}
use Rattle.std.specs.Fn.{iterate}
use Rattle.symbolic_plans.specs.Plans.{plan_of, below}
use Rattle.candidate_composites.proofs.Runs.{joined}
use Rattle.candidate_composites.proofs.found.lengthen_scheme.Goals as goal

pub returns-in-Under-clause-longer : goal.returns-in-Under-clause-longer
returns-in-Under-clause-longer c = λ h.
    let own = c.in-Under.own in
    let more = c.in-Under.more in
    let again = c.args.again in
    let p = plan_of c.in-Under.field-2.value in
    let same : own ≡ c.args.row.now = c.count.ensures.own h in
    joined own more again c.count.new.more p (c.count.ensures.more h)
    ∙ ap (λ row. below row (iterate (below row) again (below own (iterate (below own) more p)))) same
    ∙ ap (λ s. below c.args.row.now (iterate (below c.args.row.now) again s)) (sym (ap plan_of c.in-Under.is))
