use Rattle.std.proofs.Common.{rules, []}
use Rattle.spec_core.specs.Code.{program_of}
use Rattle.trace_text.specs.Fits.{FieldFits}
use Rattle.trace_text.specs.Trace.{field_text}
use Rattle.trace_text.specs.Names.{names_with}
use Rattle.trace_reader.specs.Cursors.{EndsFields, EndsValue}
use Rattle.trace_reader.proofs.Collecting.{reading_all, reading_next}
use Rattle.trace_reader.proofs.Ends.{fields_go}
use Rattle.trace_reader.proofs.offer.read_fields.Goals as goal

pub fields-preserved : goal.fields-preserved
fields-preserved c =
    let e = c.in_ok-field.ensures in
    reading_next (field_text (names_with c.args.vocabulary.now)) (FieldFits (program_of c.args.vocabulary.now.checked.now)) EndsFields EndsValue (fields_go (names_with c.args.vocabulary.now)) c.args.cursor.now []
    c.fields.fields.items c.fields.cursor c.next_field.new.cursor c.in_ok-field.field-0 c.fields.invariant
    (record { finds = e.finds; stops = e.stops; fits = e.fits; kept = e.kept }) c.in-Some.field c.in-Some.is c.push.new.self.items (search rules)

pub returns-clause-finds : goal.returns-clause-finds
returns-clause-finds c =
    let e = c.in_ok-field.ensures in
    reading_all (field_text (names_with c.args.vocabulary.now)) (FieldFits (program_of c.args.vocabulary.now.checked.now)) EndsFields EndsValue (fields_go (names_with c.args.vocabulary.now)) c.args.cursor.now []
    c.fields.fields.items c.fields.cursor c.next_field.new.cursor c.in_ok-field.field-0 c.fields.invariant
    (record { finds = e.finds; stops = e.stops; fits = e.fits; kept = e.kept }) (search rules)
