use Rattle.std.proofs.Common.{◌≡◌, map, take}
use Rattle.spec_core.specs.Code.{action_field_of}
use Rattle.rule_model.proofs.parts.copy_act_fields.Given as goal

abbrev pub invariant-loop-field : goal.invariant-loop-field
invariant-loop-field l = map action_field_of l.all.items ≡ map action_field_of (take l.field-index l.fields)
