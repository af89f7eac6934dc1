use Rattle.std.proofs.Common.{◌≡◌, ◌<◌, sym, subst, length, flat_map, List}
use Rattle.spec_core.specs.Code.{program_of}
use Rattle.spec_core.specs.Lists.{Each}
use Rattle.rule_model.specs.declared.offer.Field.{Field}
use Rattle.trace_text.specs.Fits.{FieldFits}
use Rattle.trace_text.specs.Names.{names_with}
use Rattle.trace_text.specs.Trace.{field_text}
use Rattle.value_text.specs.Values.{name_at}
use Rattle.value_text.proofs.Names.{EndsTerm}
use Rattle.trace_reader.specs.Cursors.{EndsFields, Finds}
use Rattle.trace_reader.proofs.Parts.{offer_read}
use Rattle.trace_reader.proofs.offer.read_offer.Goals as goal

pub returns-clause-finds : goal.returns-clause-finds
returns-clause-finds c =
    offer_read (program_of c.args.vocabulary.now.checked.now) c.in_ok-gate.gate c.new.result c.args.cursor.now c.read_named.new.cursor
    c.read_fields.new.cursor
    (subst (λ l. Finds (name_at l) (λ i. i < length l) EndsTerm c.args.cursor.now c.read_named.new.cursor (λ i. c.in_ok-gate.gate ≡ i))
    c.deref.ensures.value c.in_ok-gate.ensures.finds)
    (subst (λ (l : List Field). Finds (flat_map (field_text (names_with c.args.vocabulary.now))) (Each (FieldFits (program_of c.args.vocabulary.now.checked.now)))
    EndsFields c.read_named.new.cursor c.read_fields.new.cursor (λ all. l ≡ all)) (sym c.new.ensures) c.in_ok-fields.ensures.finds)
