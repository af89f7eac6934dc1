-- How many clients a log has.
use Rattle.std.specs.Prelude.{ℕ, ◌≡◌, List, [], ◌∷◌, Option, None, Some, max}
use Rattle.spec_core.specs.Code.{Program}
use Rattle.rule_model.specs.Behaviours.{Behaviour}
use Rattle.rule_model.specs.Code.{IsStart}
use Rattle.rule_model.specs.Events.{OfferName, Event, pended, acted, replied, stalled, left}
use Rattle.rule_model.specs.States.{State, start_state}
use Rattle.log_states.specs.Clients.{numbers_from}

-- the greatest client that these name, 0 where there is none
abbrev pub greatest_named : List OfferName → ℕ
greatest_named [] = 0
greatest_named (name ∷ names) = max name.0 (greatest_named names)

-- the greatest client that an entry names
abbrev pub greatest_in : Event → ℕ
greatest_in (pended client number offer ask) = client
greatest_in (acted action d None) = 0
greatest_in (acted action d (Some name)) = name.0
greatest_in (replied client number answer) = client
greatest_in (stalled names) = greatest_named names
greatest_in (left client) = client

-- the greatest client that a log names
abbrev pub greatest_client : List Event → ℕ
greatest_client [] = 0
greatest_client (event ∷ log) = max (greatest_in event) (greatest_client log)

-- the state in which a log begins: the specification's behaviour, and all clients up to the greatest that the log names
pub record BeginsIn (program : Program) (log : List Event) (s : State) : Type 0 where
  pub behaviour : Behaviour
  pub start : IsStart program behaviour
  pub state : s ≡ start_state behaviour (numbers_from 1 (greatest_client log))
