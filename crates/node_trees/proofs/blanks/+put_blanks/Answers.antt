use Rattle.std.proofs.Common.{rules, ◌≡◌, ◌∙◌, ap}
use Rattle.std.specs.Fn.{iterate}
use Rattle.symbolic_plans.specs.Plans.{below, plan_of}
use Rattle.node_trees.specs.Blanks.{chosen_by}
use Rattle.node_trees.specs.Rests.{slots_of}
use Rattle.node_trees.proofs.Listing.{slots_first, whole_run}
use Rattle.node_trees.proofs.blanks.+put_blanks.Goals as goal

pub returns-in_ok-put_run_chosen-in-Under : goal.returns-in_ok-put_run_chosen-in-Under
returns-in_ok-put_run_chosen-in-Under t c =
    let row = c.in-Under.row in
    let more = c.in-Under.more in
    let part : c.in-Under.part.value ≡ c.deref-in-Under.result.now = search rules in
    record {
      slots =
          whole_run row slots_of (chosen_by row) (slots_first row) more (plan_of c.deref-in-Under.result.now) (plan_of c.args.scheme.now)
          (ap plan_of c.in-Under.is ∙ ap (λ s. below row (iterate (below row) more (plan_of s))) part) c.args.slots.now.items
          c.put_chosen.new.slots.items c.put_run_chosen.new.slots.items c.put_blanks.new.slots.items c.put_blanks.result
          c.in_ok-put_chosen-in-Under.ensures c.in_ok-put_run_chosen-in-Under.ensures c.put_blanks.ensures.slots;
    }
