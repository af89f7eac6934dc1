use Rattle.std.proofs.Common.{◌≡◌, take}
use Rattle.rule_model.proofs.rules.Slots.copy.Given as goal

abbrev pub invariant-loop-slot : goal.invariant-loop-slot
invariant-loop-slot l = l.all.items ≡ take l.slot-index l.slot-items
