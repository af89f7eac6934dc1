use Rattle.std.proofs.Common.{[], ◌++◌, codes}
use Rattle.rule_model.specs.Events.{OfferName}
use Rattle.trace_text.specs.Fits.{NameFits}
use Rattle.trace_text.specs.Trace.{name_text}
use Rattle.trace_reader.specs.Cursors.{IsNothing, Reading, size}
use Rattle.trace_reader.proofs.number.read_names.Given as goal

abbrev pub invariant-names : goal.invariant-names
invariant-names l = Reading (λ (name : OfferName). codes " " ++ name_text name) NameFits IsNothing l.initial.cursor [] l.names.items l.cursor

abbrev pub decreases-names : goal.decreases-names
decreases-names l = size l.cursor
