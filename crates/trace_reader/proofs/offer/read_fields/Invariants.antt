use Rattle.std.proofs.Common.{[]}
use Rattle.spec_core.specs.Code.{program_of}
use Rattle.trace_text.specs.Fits.{FieldFits}
use Rattle.trace_text.specs.Trace.{field_text}
use Rattle.trace_text.specs.Names.{names_with}
use Rattle.trace_reader.specs.Cursors.{EndsFields, Reading, size}
use Rattle.trace_reader.proofs.offer.read_fields.Given as goal

abbrev pub invariant-fields : goal.invariant-fields
invariant-fields l =
    Reading (field_text (names_with l.vocabulary)) (FieldFits (program_of l.vocabulary.checked.now)) EndsFields l.initial.cursor [] l.fields.items l.cursor

abbrev pub decreases-fields : goal.decreases-fields
decreases-fields l = size l.cursor
