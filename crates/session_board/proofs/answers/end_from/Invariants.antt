use Rattle.std.specs.Prelude.{◌+◌, ◌≡◌, ◌≤◌, drop, map}
use Rattle.rule_model.specs.Events.{event_of}
use Rattle.session_board.specs.Lines.{actions_after}
use Rattle.session_board.proofs.answers.end_from.Given as goal

abbrev pub invariant-loop-entry : goal.invariant-loop-entry
invariant-loop-entry l = record {
  few : l.actions ≤ l.from.lines + l.entry-index;
  actions : actions_after l.from.actions (map event_of l.log) ≡ actions_after l.actions (map event_of (drop l.entry-index l.log));
}
