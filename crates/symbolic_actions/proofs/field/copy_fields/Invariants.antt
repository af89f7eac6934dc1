use Rattle.std.proofs.Common.{◌≡◌, map, take}
use Rattle.symbolic_actions.specs.Models.{marked_field_of}
use Rattle.symbolic_actions.proofs.field.copy_fields.Given as goal

abbrev pub invariant-loop-field : goal.invariant-loop-field
invariant-loop-field l = map marked_field_of l.all.items ≡ map marked_field_of (take l.field-index l.fields)
