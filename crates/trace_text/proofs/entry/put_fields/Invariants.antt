use Rattle.std.proofs.Common.{◌≡◌, ◌++◌, flat_map, string_bytes, take}
use Rattle.trace_text.specs.Trace.{field_text}
use Rattle.trace_text.specs.Names.{names_with}
use Rattle.trace_text.proofs.entry.put_fields.Given as goal

abbrev pub invariant-loop-field : goal.invariant-loop-field
invariant-loop-field l =
    string_bytes l.out ≡ string_bytes l.initial.out ++ flat_map (field_text (names_with l.vocabulary)) (take l.field-index l.fields)
