use Rattle.std.proofs.Common.{◌≡◌, map, take}
use Rattle.rule_model.specs.Events.{event_of}
use Rattle.rule_model.proofs.log.Log.copy.Given as goal

abbrev pub invariant-loop-entry : goal.invariant-loop-entry
invariant-loop-entry l = map event_of l.entries.items ≡ map event_of (take l.entry-index l.entry-items)
