-- A log, without its places in memory.
use Rattle.std.specs.Prelude.{List, map}
use Rattle.rule_model.specs.declared.log.Log.{Log}
use Rattle.rule_model.specs.Events.{Event, event_of}

-- what happened, in order
abbrev pub events_of : Log → List Event
events_of log = map event_of log.entries.items
