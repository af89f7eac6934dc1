use Rattle.std.specs.Prelude.{◌≡◌, map, take}
use Rattle.rule_model.specs.Events.{event_of}
use Rattle.log_check.specs.Starting as starting
use Rattle.log_check.proofs.clients.greatest_client.Given as goal

abbrev pub invariant-loop-entry : goal.invariant-loop-entry
invariant-loop-entry l = l.greatest ≡ starting.greatest_client (map event_of (take l.entry-index l.entries))
