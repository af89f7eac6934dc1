use Rattle.std.proofs.Common.{[]}
use Rattle.value_text.specs.Values.{IsGroundList}
use Rattle.value_text.specs.Vocabularies.{theory_in}
use Rattle.trace_reader.specs.Cursors.{given_text}
use Rattle.trace_text.specs.Names.{names_with}
use Rattle.trace_reader.specs.Cursors.{EndsFields, Reading, size}
use Rattle.trace_reader.proofs.action.read_values.Given as goal

abbrev pub invariant-values : goal.invariant-values
invariant-values l =
    Reading (given_text (names_with l.vocabulary)) (IsGroundList (theory_in l.vocabulary)) EndsFields l.initial.cursor [] l.values.items l.cursor

abbrev pub decreases-values : goal.decreases-values
decreases-values l = size l.cursor
