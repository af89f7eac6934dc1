use Rattle.std.proofs.Common.{◌≡◌, ◌++◌, string_bytes, take}
use Rattle.trace_text.specs.Trace.{values_text}
use Rattle.trace_text.specs.Names.{names_with}
use Rattle.trace_text.proofs.entry.put_values.Given as goal

abbrev pub invariant-loop-value : goal.invariant-loop-value
invariant-loop-value l =
    string_bytes l.out ≡ string_bytes l.initial.out ++ values_text (names_with l.vocabulary) (take l.value-index l.values)
