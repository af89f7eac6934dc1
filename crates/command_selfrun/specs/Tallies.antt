-- What a session had of each kind. (This profile.)
use Rattle.std.specs.Prelude.{ℕ, ◌+◌, List, length, Option, Some, None, sum_by}
use Rattle.rule_model.specs.declared.action.Action.{Action}
use Rattle.rule_model.specs.declared.action.Action.TheVariants.{Inner, Exit, At}
use Rattle.rule_model.specs.Events.{OfferName, Event, pended, acted, replied, stalled, left}
use Rattle.command_selfrun.specs.declared.counts.Counts.{Counts}

-- one where an action takes an offer
abbrev pub taking : Option OfferName → ℕ
taking None = 0
taking (Some name) = 1

-- one where an action is internal
abbrev pub unseen : Action → ℕ
unseen Inner = 1
unseen (Exit values) = 0
unseen (At gate values) = 0

-- What one event has of each kind: actions; those that take an offer; those that are internal; and offers that are answered, but not by being
-- taken.
abbrev pub counts_in : Event → Counts
counts_in (pended client number offer ask) = record { actions = 0; taken = 0; internal = 0; other = 0 }
counts_in (acted action d by) = record { actions = 1; taken = taking by; internal = unseen action; other = 0 }
counts_in (replied client number answer) = record { actions = 0; taken = 0; internal = 0; other = 1 }
counts_in (stalled names) = record { actions = 0; taken = 0; internal = 0; other = length names }
counts_in (left client) = record { actions = 0; taken = 0; internal = 0; other = 0 }

-- what a log has of each kind
abbrev pub counts_of : List Event → Counts
counts_of log = record {
  actions = sum_by (λ event. (counts_in event).actions) log;
  taken = sum_by (λ event. (counts_in event).taken) log;
  internal = sum_by (λ event. (counts_in event).internal) log;
  other = sum_by (λ event. (counts_in event).other) log;
}

-- what two parts of a log have together
abbrev pub plus : Counts → Counts → Counts
plus c d = record {
  actions = c.actions + d.actions;
  taken = c.taken + d.taken;
  internal = c.internal + d.internal;
  other = c.other + d.other;
}
