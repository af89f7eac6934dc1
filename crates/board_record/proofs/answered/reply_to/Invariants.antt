use Rattle.std.specs.Prelude.{◌≡◌, ◌≤◌, drop, map}
use Rattle.rule_model.specs.Events.{event_of}
use Rattle.board_record.specs.Answered.{reply_to}
use Rattle.board_record.proofs.answered.reply_to.Given as goal

abbrev pub invariant-loop-entry : goal.invariant-loop-entry
invariant-loop-entry l =
    (l.at ≤ l.entry-index) × (reply_to 0 (map event_of l.entries) l.name ≡ reply_to l.at (map event_of (drop l.entry-index l.entries)) l.name)
