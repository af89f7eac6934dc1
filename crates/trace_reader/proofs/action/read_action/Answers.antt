use Rattle.std.proofs.Common.{◌≡◌, ◌<◌, sym, subst, length, List, ℕ}
use Rattle.spec_core.specs.Code.{program_of}
use Rattle.spec_core.specs.Lists.{Each}
use Rattle.trace_text.specs.Names.{names_with}
use Rattle.trace_text.specs.Trace.{values_text}
use Rattle.value_text.specs.Values.{IsGroundList, name_at}
use Rattle.value_text.specs.Vocabularies.{theory_in}
use Rattle.value_text.proofs.Names.{EndsTerm}
use Rattle.trace_reader.specs.Cursors.{EndsFields, Finds}
use Rattle.trace_reader.proofs.Parts.{at_read, exit_read, inner_read}
use Rattle.trace_reader.proofs.action.read_action.Goals as goal

pub returns-then-takes_name-clause-finds : goal.returns-then-takes_name-clause-finds
returns-then-takes_name-clause-finds c =
    inner_read (program_of c.args.vocabulary.now.checked.now) c.requires.readable.fits c.requires.readable.named c.args.cursor.now c.takes_name.new.self
    c.takes_name.result c.takes_name.ensures.takes c.if-takes_name.true

pub returns-in_ok-values-clause-finds : goal.returns-in_ok-values-clause-finds
returns-in_ok-values-clause-finds c =
    exit_read (program_of c.args.vocabulary.now.checked.now) c.requires.readable.fits c.requires.readable.named c.args.cursor.now c.takes_name.new.self
    c.takes_name-else-takes_name.new.self c.read_values.new.cursor c.takes_name.result c.takes_name-else-takes_name.result
    c.takes_name.ensures.takes c.if-takes_name.false c.takes_name-else-takes_name.ensures.takes c.if-takes_name-2.true c.new.result
    (subst (λ (l : List (List ℕ)). Finds (values_text (names_with c.args.vocabulary.now)) (Each (IsGroundList (theory_in c.args.vocabulary.now))) EndsFields
    c.takes_name-else-takes_name.new.self c.read_values.new.cursor (λ all. l ≡ all)) (sym c.new.ensures) c.in_ok-values.ensures.finds)

pub returns-in_ok-values-2-clause-finds : goal.returns-in_ok-values-2-clause-finds
returns-in_ok-values-2-clause-finds c =
    at_read (program_of c.args.vocabulary.now.checked.now) c.requires.readable.fits c.requires.readable.named c.args.cursor.now c.takes_name.new.self
    c.takes_name-else-takes_name.new.self c.read_values-else-takes_name-2.new.cursor c.takes_name.result c.takes_name-else-takes_name.result
    c.takes_name.ensures.takes c.if-takes_name.false c.takes_name-else-takes_name.ensures.takes c.if-takes_name-2.false c.in_ok-gate.gate
    c.new-else-takes_name-2.result c.read_named.new.cursor
    (subst (λ l. Finds (name_at l) (λ i. i < length l) EndsTerm c.takes_name-else-takes_name.new.self c.read_named.new.cursor
    (λ i. c.in_ok-gate.gate ≡ i)) c.deref.ensures.value c.in_ok-gate.ensures.finds)
    (subst (λ (l : List (List ℕ)). Finds (values_text (names_with c.args.vocabulary.now)) (Each (IsGroundList (theory_in c.args.vocabulary.now))) EndsFields
    c.read_named.new.cursor c.read_values-else-takes_name-2.new.cursor (λ all. l ≡ all)) (sym c.new-else-takes_name-2.ensures)
    c.in_ok-values-2.ensures.finds)
