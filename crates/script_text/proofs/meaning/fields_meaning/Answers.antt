use Rattle.std.proofs.Common.{ap, map}
use Rattle.std.proofs.lemmas.List.{drop_all}
use Rattle.sort_overloads.specs.Views.{context_of}
use Rattle.script_text.specs.Views.{field_of}
use Rattle.script_text.specs.Wishes.{wished_field_of}
use Rattle.script_text.proofs.FieldMeanings.{meant_finish}
use Rattle.script_text.proofs.meaning.fields_meaning.Goals as goal

pub returns-clause-mean : goal.returns-clause-mean
returns-clause-mean c =
    meant_finish (context_of c.args.vocabulary.now.scope) (map field_of c.args.fields.now) (map wished_field_of c.loop-field.all.items) _
    c.loop-field.invariant (ap (map field_of) (drop_all c.loop-field.field-index c.args.fields.now c.loop-field-test.false))
