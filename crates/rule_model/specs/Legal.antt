-- Logs that are derivations: each entry is possible in the state before it.
use Rattle.std.specs.Prelude.{ℕ, ◌+◌, ◌<◌, ◌≡◌, List, [], ◌∷◌, Option, Some, None, Contains, map, length}
use Rattle.std.specs.List.Sorted.{IsStrictlyIncreasing}
use Rattle.spec_core.specs.Code.{Program}
use Rattle.rule_model.specs.declared.action.Action.{Action}
use Rattle.rule_model.specs.declared.offer.Offer.{Offer}
use Rattle.rule_model.specs.Behaviours.{Behaviour}
use Rattle.rule_model.specs.Derives.{Derives}
use Rattle.rule_model.specs.Meets.{Meets, NeverMeets, IsUnseen}
use Rattle.rule_model.specs.Answers.{Answer, taken, deadlock, stalls, beyond, not_now, ended, spent, too_large, limit}
use Rattle.rule_model.specs.Events.{OfferName, Event, pended, acted, replied, stalled, left}
use Rattle.rule_model.specs.States.{PendingOffer, State, after_offer, after_action, after_reply, after_stall, after_leave}

-- an offer of this name is pending, and the fact holds of what it offers
pub record IsPendingAnd (s : State) (name : OfferName) (P : Offer → Type 0) : Type 0 where
  pub waits : PendingOffer
  pub among : Contains s.pending waits
  pub client : waits.client ≡ name.0
  pub number : waits.number ≡ name.1
  pub holds : P waits.offer

abbrev pub IsPending : State → OfferName → Type 0
IsPending s name = IsPendingAnd s name (λ offer. Unit {0})

-- the client has no offer pending
abbrev pub IsIdle : State → ℕ → Type 0
IsIdle s client = (p : PendingOffer) → Contains s.pending p → p.client ≡ client → ⊥

-- each open client has an offer pending
abbrev pub AllWait : State → Type 0
AllWait s = (client : ℕ) → Contains s.open_clients client → (number : ℕ) × IsPending s (client, number)

-- the list names all pending offers, by ascending client
pub record NamesAll (s : State) (names : List OfferName) : Type 0 where
  pub ascending : IsStrictlyIncreasing (map (λ (name : OfferName). name.0) names)
  pub all : (p : PendingOffer) → Contains s.pending p → Contains names (p.client, p.number)
  pub only : (name : OfferName) → Contains names name → IsPending s name

-- A reply names the number of actions before it. That an offer was taken, and that it was stalled, are entries of their own.
abbrev pub IsReplyAt : Answer → ℕ → Type 0
IsReplyAt (taken at values) n = ⊥
IsReplyAt (deadlock at) n = at ≡ n
IsReplyAt (stalls at) n = ⊥
IsReplyAt (beyond at d) n = at ≡ n
IsReplyAt (not_now at) n = at ≡ n
IsReplyAt (ended at) n = at ≡ n
IsReplyAt (spent at term) n = at ≡ n
IsReplyAt (too_large at term) n = at ≡ n
IsReplyAt (limit at kind) n = at ≡ n

module _ (program : Program) where
  -- no step meets one of these offers
  abbrev pub NoneMet : State → List PendingOffer → Type 0
  NoneMet s offers = (p : PendingOffer) → Contains offers p → NeverMeets program s.behaviour p.offer

  -- who takes part in an action: nobody in one that isn't seen, and else a client whose pending offer it meets
  abbrev pub IsAgreed : State → Action → Option OfferName → Type 0
  IsAgreed s action None = IsUnseen action
  IsAgreed s action (Some name) = IsPendingAnd s name (Meets program.theory action)

  -- the entry is possible in the state s, which becomes t
  abbrev pub IsPossible : State → Event → State → Type 0
  IsPossible s (pended client number offer ask) t =
      Contains s.open_clients client × IsIdle s client × (number ≡ s.made client + 1) × (offer.gate.0 < length program.gates) ×
      (t ≡ after_offer s client number offer ask)
  IsPossible s (acted action d by) t =
      (rest : Behaviour) × Derives program s.behaviour d action rest × IsAgreed s action by × (t ≡ after_action s action by rest)
  IsPossible s (replied client number answer) t =
      IsPending s (client, number) × IsReplyAt answer s.actions × (t ≡ after_reply s (client, number))
  IsPossible s (stalled names) t = (names ≡ [] → ⊥) × NamesAll s names × (t ≡ after_stall s)
  IsPossible s (left client) t = Contains s.open_clients client × IsIdle s client × (t ≡ after_leave s client)

  -- the log leads from the state s to the state t, each entry being possible
  abbrev pub IsDerivation : List Event → State → State → Type 0
  IsDerivation [] s t = t ≡ s
  IsDerivation (event ∷ log) s t = (next : State) × IsPossible s event next × IsDerivation log next t
