use Rattle.std.proofs.Common.{rules, map, drop, refl, ◌+◌}
use Rattle.spec_core.proofs.Lists.{each-at, map_drop}
use Rattle.script_text.specs.Scripts.{FieldFits}
use Rattle.script_text.specs.Wishes.{wished_field_of}
use Rattle.match_code.specs.Prepared.{program_in}
use Rattle.script_offers.specs.Given.{given_in, IsValuedWithin}
use Rattle.script_offers.specs.Valued.{IsValuedField}
use Rattle.script_offers.proofs.Comings.{handed_on}
use Rattle.script_offers.proofs.Gathered.{gathered_more, gathered_fault}
use Rattle.script_offers.proofs.offers.valued_fields.Goals as goal

pub valued_field-requires-clause-fits : goal.valued_field-requires-clause-fits
valued_field-requires-clause-fits c =
    each-at (FieldFits (program_in c.args.prepared.now).theory) wished_field_of c.args.fields.now c.args.fields.now c.loop-field.field-index
    c.field-item.result refl c.loop-field-test.true c.field-item.is c.requires.fit

pub returns-in_err-valued_field-clause-fault : goal.returns-in_err-valued_field-clause-fault
returns-in_err-valued_field-clause-fault c =
    handed_on c.from_residual.result _ c.in_err-valued_field.field-0.0 (search rules)
    (gathered_fault (program_in c.args.prepared.now).theory c.args.budget (IsValuedField (program_in c.args.prepared.now).theory) given_in
    (map wished_field_of c.args.fields.now) c.loop-field.all.items (wished_field_of c.field-item.result)
    (map wished_field_of (drop c.loop-field.field-index c.args.fields.now))
    (map wished_field_of (drop (c.loop-field.field-index + 1) c.args.fields.now)) c.in_err-valued_field.field-0.0 c.loop-field.invariant
    (map_drop wished_field_of c.args.fields.now c.loop-field.field-index c.field-item.result c.loop-field-test.true c.field-item.is)
    c.in_err-valued_field.ensures.fault)

pub loop-field-preserved : goal.loop-field-preserved
loop-field-preserved c =
    gathered_more (IsValuedField (program_in c.args.prepared.now).theory) given_in
    (IsValuedWithin (program_in c.args.prepared.now).theory c.args.budget) (map wished_field_of c.args.fields.now) c.loop-field.all.items
    c.push.new.self.items (wished_field_of c.field-item.result) c.in_ok-valued_field.field-0
    (map wished_field_of (drop c.loop-field.field-index c.args.fields.now))
    (map wished_field_of (drop (c.loop-field.field-index + 1) c.args.fields.now)) c.loop-field.invariant
    (map_drop wished_field_of c.args.fields.now c.loop-field.field-index c.field-item.result c.loop-field-test.true c.field-item.is)
    c.in_ok-valued_field.ensures.valued c.in_ok-valued_field.ensures.within c.in_ok-push.ensures.items
