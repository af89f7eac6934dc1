use Rattle.std.proofs.Common.{map, drop}
use Rattle.sort_overloads.specs.Views.{context_of}
use Rattle.script_text.specs.Views.{field_of}
use Rattle.script_text.specs.Wishes.{wished_field_of}
use Rattle.script_text.proofs.FieldMeanings.{MeantSoFar}
use Rattle.script_text.proofs.meaning.fields_meaning.Given as goal

abbrev pub invariant-loop-field : goal.invariant-loop-field
invariant-loop-field l =
    MeantSoFar (context_of l.vocabulary.scope) (map field_of l.fields) (map wished_field_of l.all.items) (map field_of (drop l.field-index l.fields))
