use Rattle.std.proofs.Common.{◌∙◌, [], ◌∷◌, ap, map}
use Rattle.std.proofs.lemmas.List.{map-append}
use Rattle.spec_core.specs.declared.code.ActField.TheVariants.{Take}
use Rattle.spec_core.specs.Code.{action_field_of}
use Rattle.static_readings.specs.Views.{fields_of}
use Rattle.static_readings.proofs.Offered.{taken_next}
use Rattle.static_readings.proofs.fields.taken.Goals as goal

pub loop-i-preserved : goal.loop-i-preserved
loop-i-preserved c = taken_next c.args.number c.args.sort.0 c.args.names.now c.loop-i.i c.index-names-i.result c.in_ok-behind.field-0 (fields_of c.loop-i.fields)
    (fields_of c.push.new.self) c.loop-i-test.true c.index-names-i.is c.in_ok-behind.ensures c.loop-i.invariant
    (ap (map action_field_of) c.in_ok-push.ensures.items ∙ map-append action_field_of c.loop-i.fields.items (Take c.in_ok-behind.field-0 c.args.sort ∷ []))
