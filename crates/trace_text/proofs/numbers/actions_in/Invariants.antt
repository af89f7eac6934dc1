use Rattle.std.proofs.Common.{◌≡◌, ◌≤◌, map, take}
use Rattle.rule_model.specs.Events.{event_of}
use Rattle.trace_text.specs.Formats.{actions_in}
use Rattle.trace_text.proofs.numbers.actions_in.Given as goal

abbrev pub invariant-loop-entry : goal.invariant-loop-entry
invariant-loop-entry l = (l.actions ≡ actions_in (map event_of (take l.entry-index l.entries))) × (l.actions ≤ l.entry-index)
