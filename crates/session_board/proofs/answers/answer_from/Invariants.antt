use Rattle.std.specs.Prelude.{◌+◌, ◌≡◌, ◌≤◌, drop, map}
use Rattle.rule_model.specs.Events.{event_of}
use Rattle.session_board.specs.Answers.{first_answer}
use Rattle.session_board.specs.Lines.{actions_after}
use Rattle.session_board.proofs.answers.answer_from.Given as goal

abbrev pub invariant-loop-entry : goal.invariant-loop-entry
invariant-loop-entry l = record {
  lines : l.spot.lines ≡ l.fn.from.lines + l.entry-index;
  few : l.spot.actions ≤ l.spot.lines;
  found : first_answer l.fn.from.lines l.fn.from.actions (map event_of l.log) l.name
      ≡ first_answer l.spot.lines l.spot.actions (map event_of (drop l.entry-index l.log)) l.name;
  actions : actions_after l.fn.from.actions (map event_of l.log) ≡ actions_after l.spot.actions (map event_of (drop l.entry-index l.log));
}
