use Rattle.std.proofs.Common.{◌∷◌, []}
use Rattle.rule_model.specs.declared.rules.Slot.{Slot}
use Rattle.symbolic_composites.specs.OpenFields.{one_each}
use Rattle.symbolic_trees.proofs.Fronts.{fronts_counted}
use Rattle.symbolic_trees.proofs.ways.+each_count.Goals as goal

pub first_count-returns : goal.first_count-returns
first_count-returns t c =
    fronts_counted (λ (slot : Slot) others. (slot ∷ []) ∷ others) (one_each c.args.choices.now) c.args.first.now
    c.each_count.result c.saturating_mul.result c.each_count.ensures c.saturating_mul.ensures
