-- The state of a session, and what each entry of a log makes of it.
use Rattle.std.specs.Prelude.{ℕ, ◌+◌, Bool, ◌&&◌, not, nat_eq, if◌then◌else◌, List, [], ◌∷◌, ◌++◌, filter, Option, Some, None}
use Rattle.rule_model.specs.declared.action.Action.{Action}
use Rattle.rule_model.specs.declared.offer.Offer.{Offer}
use Rattle.rule_model.specs.Behaviours.{Behaviour}
use Rattle.rule_model.specs.Events.{OfferName}

-- an offer that waits for its answer
pub record PendingOffer : Type 0 where
  pub client : ℕ
  pub number : ℕ
  pub offer : Offer
  pub ask : Bool

-- the behaviour; the open clients, ascending; the pending offers in log order; how many offers each client has made; how many
-- actions there were; the last one
pub record State : Type 0 where
  pub behaviour : Behaviour
  pub open_clients : List ℕ
  pub pending : List PendingOffer
  pub made : ℕ → ℕ
  pub actions : ℕ
  pub last : Option Action

-- at the beginning the clients are open, and nothing was offered or done
abbrev pub start_state : Behaviour → List ℕ → State
start_state b clients = record { behaviour = b; open_clients = clients; pending = []; made = λ client. 0; actions = 0; last = None }

-- the other pending offers
abbrev pub without : OfferName → List PendingOffer → List PendingOffer
without name pending = filter (λ p. not (nat_eq p.client name.0 && nat_eq p.number name.1)) pending

abbrev pub without_taken : Option OfferName → List PendingOffer → List PendingOffer
without_taken None pending = pending
without_taken (Some name) pending = without name pending

abbrev pub after_offer : State → ℕ → ℕ → Offer → Bool → State
after_offer s client number offer ask =
    record s {
      pending = s.pending ++ record { client = client; number = number; offer = offer; ask = ask } ∷ [];
      made = λ other. if nat_eq other client then s.made client + 1 else s.made other;
    }

abbrev pub after_action : State → Action → Option OfferName → Behaviour → State
after_action s action by rest =
    record s { behaviour = rest; pending = without_taken by s.pending; actions = s.actions + 1; last = Some action }

abbrev pub after_reply : State → OfferName → State
after_reply s name = record s { pending = without name s.pending }

abbrev pub after_stall : State → State
after_stall s = record s { pending = [] }

abbrev pub after_leave : State → ℕ → State
after_leave s client = record s { open_clients = filter (λ other. not (nat_eq other client)) s.open_clients }
