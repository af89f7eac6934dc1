-- The state that a value of the program stands for.
use Rattle.std.specs.Prelude.{map}
use Rattle.rule_model.specs.Behaviours.{Behaviour, stop}
use Rattle.rule_model.specs.States.{PendingOffer, State}
use Rattle.log_states.specs.Clients.{open_among, made_by}
use Rattle.log_states.specs.declared.pending.Pending.{Pending}
use Rattle.log_states.specs.declared.state.SessionState.{SessionState}

abbrev pub pending_of : Pending → PendingOffer
pending_of p = record { client = p.client; number = p.number; offer = p.offer; ask = p.ask }

-- the state, where this behaviour is reached
abbrev pub state_at : Behaviour → SessionState → State
state_at b s = record {
  behaviour = b;
  open_clients = open_among s.clients.items;
  pending = map pending_of s.pending.items;
  made = made_by s.clients.items;
  actions = s.actions;
  last = s.last;
}

-- All of the state but the behaviour that is reached, which the value doesn't hold: `stop` stands in its place.
abbrev pub state_of : SessionState → State
state_of s = state_at stop s
