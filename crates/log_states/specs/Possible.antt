-- What is asked of the entries of a log in a state, rules aside.
use Rattle.std.specs.Prelude.{ℕ, ◌+◌, ◌<◌, ◌≡◌, List, [], Contains}
use Rattle.rule_model.specs.declared.offer.Offer.{Offer}
use Rattle.rule_model.specs.Events.{OfferName}
use Rattle.rule_model.specs.Legal.{IsIdle, IsPending, NamesAll}
use Rattle.rule_model.specs.States.{State}

-- the client has an offer pending
abbrev pub HasPending : State → ℕ → Type 0
HasPending s client = (number : ℕ) × IsPending s (client, number)

-- a client may make its offer of this number, at one of so many gates
pub record MayOffer (gates : ℕ) (s : State) (client number : ℕ) (offer : Offer) : Type 0 where
  pub is_open : Contains s.open_clients client
  pub idle : IsIdle s client
  pub next : number ≡ s.made client + 1
  pub gate : offer.gate.0 < gates

-- a client may leave
pub record MayLeave (s : State) (client : ℕ) : Type 0 where
  pub is_open : Contains s.open_clients client
  pub idle : IsIdle s client

-- the pending offers may be stalled, named so
pub record MayStall (s : State) (names : List OfferName) : Type 0 where
  pub some : names ≡ [] → ⊥
  pub all : NamesAll s names
