use Rattle.std.proofs.Common.{◌≡◌, map, take}
use Rattle.spec_core.specs.Code.{exit_value_of}
use Rattle.rule_model.proofs.parts.copy_exit_fields.Given as goal

abbrev pub invariant-loop-field : goal.invariant-loop-field
invariant-loop-field l = map exit_value_of l.all.items ≡ map exit_value_of (take l.field-index l.fields)
