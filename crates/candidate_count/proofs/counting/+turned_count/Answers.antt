use Rattle.std.proofs.Common.{rules, ◌≡◌, ◌∙◌, refl, sym, ap}
use Rattle.symbolic_rules.specs.Tables.{windows_in}
use Rattle.symbolic_plans.specs.Plans.{below, plan_of}
use Rattle.symbolic_plans.proofs.Runs.{iterate_same}
use Rattle.candidate_count.specs.Counts.{limited, turned_tuples}
use Rattle.candidate_count.proofs.counting.+turned_count.Goals as goal

pub returns-in-Under : goal.returns-in-Under
returns-in-Under t c =
    let row = c.in-Under.field-0 in
    let more = c.in-Under.field-1 in
    let tuples = turned_tuples (windows_in c.args.windows.now) in
    let part : c.in-Under.part.value ≡ c.deref.result.now = search rules in
    c.turned_count.ensures
    ∙ sym (ap limited (ap (λ s. tuples (plan_of s)) c.in-Under.is ∙ iterate_same (below row) tuples (λ q. refl) more (plan_of c.in-Under.part.value)
    ∙ ap (λ s. tuples (plan_of s)) part))
