use Rattle.std.proofs.Common.{rules, ℕ, [], List, ◌++◌, codes}
use Rattle.rule_model.specs.Events.{OfferName}
use Rattle.trace_text.specs.Fits.{NameFits}
use Rattle.trace_text.specs.Trace.{name_text}
use Rattle.trace_reader.specs.Cursors.{IsNothing}
use Rattle.trace_reader.specs.Digits.{EndsNumber}
use Rattle.trace_reader.proofs.Collecting.{reading_all, reading_next}
use Rattle.trace_reader.proofs.Ends.{names_go}
use Rattle.trace_reader.proofs.number.read_names.Goals as goal

abbrev text_of : OfferName → List ℕ
text_of name = codes " " ++ name_text name

pub names-preserved : goal.names-preserved
names-preserved c =
    let e = c.next_name.ensures in
    reading_next text_of NameFits IsNothing EndsNumber names_go c.args.cursor.now [] c.names.names.items c.names.cursor c.next_name.new.cursor
    c.next_name.result c.names.invariant (record { finds = e.finds; stops = e.stops; fits = e.fits; kept = e.kept }) c.in-Some.name
    c.in-Some.is c.push.new.self.items (search rules)

pub returns-clause-finds : goal.returns-clause-finds
returns-clause-finds c =
    let e = c.next_name.ensures in
    reading_all text_of NameFits IsNothing EndsNumber names_go c.args.cursor.now [] c.names.names.items c.names.cursor c.next_name.new.cursor
    c.next_name.result c.names.invariant (record { finds = e.finds; stops = e.stops; fits = e.fits; kept = e.kept }) (search rules)
