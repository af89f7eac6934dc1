-- How a log answers an offer.
use Rattle.std.specs.Prelude.{ℕ, ◌+◌, ◌&&◌, Bool, if◌then◌else◌, nat_eq, List, [], ◌∷◌, Option, Some, None}
use Rattle.rule_model.specs.Answers.{Answer, answer_of, stalls, taken}
use Rattle.rule_model.specs.declared.action.Action.{Action}
use Rattle.rule_model.specs.declared.action.Action.TheVariants.{Inner, Exit, At}
use Rattle.rule_model.specs.Events.{Event, OfferName, acted, left, pended, replied, stalled}
use Rattle.board_record.specs.declared.answered.Answered.{Answered}
use Rattle.board_record.specs.declared.answered.Answered.TheVariants.{Reply, Stalled, Taken}
use Rattle.log_states.specs.Pending.{is_named}

-- the reply to an offer that is answered so
abbrev pub answered_of : Answered → Answer
answered_of (Taken at values) = taken at values.now
answered_of (Reply reply) = answer_of reply.now
answered_of (Stalled at) = stalls at

abbrev pub is_name : OfferName → OfferName → Bool
is_name name other = nat_eq name.0 other.0 && nat_eq name.1 other.1

-- what an action gives to the offer that it takes, after so many actions
abbrev pub reply_by : ℕ → Action → Option Answer
reply_by at Inner = None
reply_by at (Exit values) = None
reply_by at (At gate values) = Some (taken at values)

-- what it gives to the offer of this name, where it takes that of the other name
abbrev pub reply_if_taken : ℕ → Action → Option OfferName → OfferName → Option Answer
reply_if_taken at action None name = None
reply_if_taken at action (Some other) name = if is_name other name then reply_by at action else None

-- The reply that an entry gives to the offer of this name, after so many actions: as an action that takes it, as a reply to it, or as a
-- stall of all offers.
abbrev pub reply_in : ℕ → Event → OfferName → Option Answer
reply_in at (pended client number offer ask) name = None
reply_in at (acted action d by) name = reply_if_taken at action by name
reply_in at (replied client number answer) name = if is_name (client, number) name then Some answer else None
reply_in at (stalled names) name = if is_named names name.0 name.1 then Some (stalls at) else None
reply_in at (left client) name = None

-- how many actions there are with the entry
abbrev pub actions_with : ℕ → Event → ℕ
actions_with at (pended client number offer ask) = at
actions_with at (acted action d by) = at + 1
actions_with at (replied client number answer) = at
actions_with at (stalled names) = at
actions_with at (left client) = at

abbrev pub first_reply : Option Answer → Option Answer → Option Answer
first_reply None later = later
first_reply (Some answer) later = Some answer

-- the first reply to the offer in a log, before which there were so many actions; None where it isn't answered yet
abbrev pub reply_to : ℕ → List Event → OfferName → Option Answer
reply_to at [] name = None
reply_to at (event ∷ log) name = first_reply (reply_in at event name) (reply_to (actions_with at event) log name)
