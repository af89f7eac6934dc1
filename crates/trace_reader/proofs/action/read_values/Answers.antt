use Rattle.std.proofs.Common.{rules, []}
use Rattle.value_text.specs.Values.{IsGroundList}
use Rattle.value_text.specs.Vocabularies.{theory_in}
use Rattle.trace_reader.specs.Cursors.{given_text}
use Rattle.trace_text.specs.Names.{names_with}
use Rattle.trace_reader.specs.Cursors.{EndsFields, EndsValue}
use Rattle.trace_reader.proofs.Collecting.{reading_all, reading_next}
use Rattle.trace_reader.proofs.Ends.{values_go}
use Rattle.trace_reader.proofs.action.read_values.Goals as goal

pub values-preserved : goal.values-preserved
values-preserved c =
    let e = c.in_ok-value.ensures in
    reading_next (given_text (names_with c.args.vocabulary.now)) (IsGroundList (theory_in c.args.vocabulary.now)) EndsFields EndsValue (values_go (names_with c.args.vocabulary.now)) c.args.cursor.now []
    c.values.values.items c.values.cursor c.next_value.new.cursor c.in_ok-value.field-0 c.values.invariant
    (record { finds = e.finds; stops = e.stops; fits = e.fits; kept = e.kept }) c.in-Some.value c.in-Some.is c.push.new.self.items (search rules)

pub returns-clause-finds : goal.returns-clause-finds
returns-clause-finds c =
    let e = c.in_ok-value.ensures in
    reading_all (given_text (names_with c.args.vocabulary.now)) (IsGroundList (theory_in c.args.vocabulary.now)) EndsFields EndsValue (values_go (names_with c.args.vocabulary.now)) c.args.cursor.now []
    c.values.values.items c.values.cursor c.next_value.new.cursor c.in_ok-value.field-0 c.values.invariant
    (record { finds = e.finds; stops = e.stops; fits = e.fits; kept = e.kept }) (search rules)
