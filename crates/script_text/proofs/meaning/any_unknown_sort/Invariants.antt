use Rattle.std.proofs.Common.{◌≡◌, map, drop}
use Rattle.std.specs.List.{list_any}
use Rattle.sort_overloads.specs.Views.{context_of}
use Rattle.script_text.specs.Meanings.{has_unknown_sort}
use Rattle.script_text.specs.Views.{field_of}
use Rattle.script_text.proofs.meaning.any_unknown_sort.Given as goal

abbrev pub invariant-loop-field : goal.invariant-loop-field
invariant-loop-field l =
    list_any (has_unknown_sort (context_of l.vocabulary.scope)) (map field_of l.fields)
    ≡ list_any (has_unknown_sort (context_of l.vocabulary.scope)) (map field_of (drop l.field-index l.fields))
