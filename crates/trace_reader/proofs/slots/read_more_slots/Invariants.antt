use Rattle.std.proofs.Common.{[], ◌∷◌}
use Rattle.spec_core.specs.Code.{program_of}
use Rattle.trace_text.specs.Fits.{SlotFits}
use Rattle.trace_reader.specs.Cursors.{further_text}
use Rattle.trace_text.specs.Names.{names_with}
use Rattle.trace_reader.specs.Cursors.{EndsSlots, Reading, size}
use Rattle.trace_reader.proofs.slots.read_more_slots.Given as goal

abbrev pub invariant-slots : goal.invariant-slots
invariant-slots l =
    Reading (further_text (names_with l.vocabulary)) (SlotFits (program_of l.vocabulary.checked.now)) EndsSlots l.initial.cursor (l.fn.first ∷ []) l.slots.items l.cursor

abbrev pub decreases-slots : goal.decreases-slots
decreases-slots l = size l.cursor
