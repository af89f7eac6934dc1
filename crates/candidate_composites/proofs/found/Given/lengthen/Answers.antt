use Rattle.std.proofs.Common.{◌∙◌, ◌≡◌, sym, ap}
use Rattle.symbolic_plans.specs.OpenPlans.{open_plan_of}
use Rattle.candidate_composites.specs.Known.{own_or_made, under_run}
use Rattle.candidate_composites.proofs.Runs.{runs_joined}
use Rattle.candidate_composites.proofs.found.Given.lengthen.Goals as goal

pub returns-in-Beneath-clause-longer : goal.returns-in-Beneath-clause-longer
returns-in-Beneath-clause-longer c = λ h.
    let own = c.in-Beneath.own in
    let more = c.in-Beneath.more in
    let again = c.args.again in
    let q = open_plan_of c.in-Beneath.field-2.now in
    let same : own ≡ c.args.row.now = c.count.ensures.own h in
    runs_joined own more again c.count.new.more q (c.count.ensures.more h)
    ∙ ap (λ row. under_run row again (under_run own more q)) same
    ∙ ap (under_run c.args.row.now again) (sym (ap own_or_made c.in-Beneath.is))
