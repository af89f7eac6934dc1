use Rattle.std.proofs.Common.{◌∷◌}
use Rattle.rule_model.specs.declared.rules.Slot.{Slot}
use Rattle.symbolic_plans.specs.Plans.{taken_slots}
use Rattle.symbolic_trees.proofs.Fronts.{fronts_counted}
use Rattle.symbolic_trees.proofs.counts.+taken_count.Goals as goal

pub count_with-returns : goal.count_with-returns
count_with-returns t c =
    fronts_counted (λ (slot : Slot) slots. slot ∷ slots) (taken_slots c.args.takes.now c.args.choices.now) c.args.first.now
    c.taken_count.result c.saturating_mul.result c.taken_count.ensures.counted c.saturating_mul.ensures
