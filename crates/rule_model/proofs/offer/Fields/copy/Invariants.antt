use Rattle.std.proofs.Common.{◌≡◌, take}
use Rattle.rule_model.proofs.offer.Fields.copy.Given as goal

abbrev pub invariant-loop-field : goal.invariant-loop-field
invariant-loop-field l = l.all.items ≡ take l.field-index l.field-items
