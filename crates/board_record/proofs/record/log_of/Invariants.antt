use Rattle.std.specs.Prelude.{◌≡◌, map}
use Rattle.rule_model.specs.Events.{event_of}
use Rattle.rule_model.specs.Logs.{events_of}
use Rattle.board_record.proofs.record.log_of.Given as goal

abbrev pub invariant-loop-entry : goal.invariant-loop-entry
invariant-loop-entry l = events_of l.log ≡ map event_of l.yielded
