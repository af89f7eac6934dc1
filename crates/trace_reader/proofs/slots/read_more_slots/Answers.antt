use Rattle.std.proofs.Common.{rules, [], ◌∷◌}
use Rattle.spec_core.specs.Code.{program_of}
use Rattle.trace_text.specs.Fits.{SlotFits}
use Rattle.trace_reader.specs.Cursors.{further_text}
use Rattle.trace_text.specs.Names.{names_with}
use Rattle.trace_reader.specs.Cursors.{EndsSlots, EndsValue}
use Rattle.trace_reader.proofs.Collecting.{reading_all, reading_next}
use Rattle.trace_reader.proofs.Ends.{slots_go}
use Rattle.trace_reader.proofs.slots.read_more_slots.Goals as goal

pub slots-preserved : goal.slots-preserved
slots-preserved c =
    let e = c.in_ok-slot.ensures in
    reading_next (further_text (names_with c.args.vocabulary.now)) (SlotFits (program_of c.args.vocabulary.now.checked.now)) EndsSlots EndsValue (slots_go (names_with c.args.vocabulary.now)) c.args.cursor.now (c.args.first ∷ [])
    c.slots.slots.items c.slots.cursor c.next_slot.new.cursor c.in_ok-slot.field-0 c.slots.invariant
    (record { finds = e.finds; stops = e.stops; fits = e.fits; kept = e.kept }) c.in-Some.slot c.in-Some.is c.push-in-Some.new.self.items (search rules)

pub returns-clause-finds : goal.returns-clause-finds
returns-clause-finds c =
    let e = c.in_ok-slot.ensures in
    reading_all (further_text (names_with c.args.vocabulary.now)) (SlotFits (program_of c.args.vocabulary.now.checked.now)) EndsSlots EndsValue (slots_go (names_with c.args.vocabulary.now)) c.args.cursor.now (c.args.first ∷ [])
    c.slots.slots.items c.slots.cursor c.next_slot.new.cursor c.in_ok-slot.field-0 c.slots.invariant
    (record { finds = e.finds; stops = e.stops; fits = e.fits; kept = e.kept }) (search rules)
