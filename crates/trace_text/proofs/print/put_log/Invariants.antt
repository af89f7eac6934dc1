use Rattle.std.proofs.Common.{◌≡◌, ◌++◌, map, string_bytes, take}
use Rattle.rule_model.specs.Events.{event_of}
use Rattle.trace_text.specs.Formats.{behind_log, log_text, nothing_before}
use Rattle.trace_text.specs.Names.{names_with}
use Rattle.trace_text.specs.Standing.{StandsBehind}
use Rattle.trace_text.proofs.print.put_log.Given as goal

abbrev pub invariant-loop-entry : goal.invariant-loop-entry
invariant-loop-entry l =
    (l.lines.format ≡ l.fn.format)
    × StandsBehind l.lines (behind_log (names_with l.vocabulary) nothing_before (map event_of (take l.entry-index l.entries)))
    × (string_bytes l.out
    ≡ string_bytes l.initial.out ++ log_text (names_with l.vocabulary) l.fn.format nothing_before (map event_of (take l.entry-index l.entries)))
