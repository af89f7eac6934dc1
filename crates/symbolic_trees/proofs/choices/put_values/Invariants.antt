use Rattle.std.proofs.Common.{◌≡◌, ◌++◌, map, take}
use Rattle.rule_model.specs.declared.rules.Slot.TheVariants.{Of}
use Rattle.symbolic_trees.proofs.choices.put_values.Given as goal

abbrev pub invariant-loop-value : goal.invariant-loop-value
invariant-loop-value l = l.slots.items ≡ l.initial.slots.items ++ map Of (take l.value-index l.values)
