-- The number of actions in a reply.
use Rattle.std.specs.Prelude.{ℕ}
use Rattle.rule_model.specs.Events.{Event, pended, acted, replied, stalled, left}
use Rattle.rule_model.specs.Legal.{IsReplyAt}

-- where there were so many actions before: a reply names this number
abbrev pub IsNumbered : ℕ → Event → Type 0
IsNumbered n (replied client number answer) = IsReplyAt answer n
IsNumbered n (pended client number offer ask) = Unit {0}
IsNumbered n (acted action d by) = Unit {0}
IsNumbered n (stalled names) = Unit {0}
IsNumbered n (left client) = Unit {0}
