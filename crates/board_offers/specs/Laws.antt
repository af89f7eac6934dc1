-- What follows from the definitions.
use Rattle.std.specs.Prelude.{ℕ, ◌≡◌, ◌↔◌, ◌<◌, ◌≤◌, List, [], ◌∷◌, length, map, Contains, Option, Some, true}
use Rattle.spec_core.specs.Code.{Program}
use Rattle.decision_trees.specs.Rules.{Query, Next, takes, deadlocks, is_beyond, is_not_now, goes_on, stalls, nothing}
use Rattle.rule_model.specs.Answering.{name_of}
use Rattle.rule_model.specs.Events.{Event}
use Rattle.rule_model.specs.Legal.{AllWait, IsDerivation, IsPending}
use Rattle.rule_model.specs.States.{PendingOffer, State}
use Rattle.log_states.specs.Possible.{MayStall}
use Rattle.decision_order.specs.declared.listing.OffersByNumber.{OffersByNumber}
use Rattle.decision_order.specs.Rules.{next_decided}
use Rattle.decision_order.specs.Searches.{waiting_of}
use Rattle.candidate_laws.specs.TreeLaws.{IsSoundWaiting}
use Rattle.board_offers.specs.Numbering.{AreOfOffers}
use Rattle.board_offers.specs.Offers.{offer_at}
use Rattle.board_offers.specs.Waiting.{waiting_in, by_client, AreOfDifferentClients}

-- what the rules ask of the pending offers is sound: each offer that only asks is pending, and those by client are those that are pending
abbrev pub WaitingIsSound : Type 0
WaitingIsSound = (s : State) → IsSoundWaiting (waiting_in s)

-- whether all wait tells that each open client has an offer pending
abbrev pub AllWaitIsDecided : Type 0
AllWaitIsDecided = (s : State) → ((waiting_in s).all_wait ≡ true) ↔ AllWait s

-- the first one by client is pending, and no pending offer is of a smaller client
abbrev pub LeastIsLeast : Type 0
LeastIsLeast =
    (s : State) (p : PendingOffer) (ps : List PendingOffer) →
    by_client s.pending ≡ p ∷ ps →
    Contains s.pending p × ((q : PendingOffer) → Contains s.pending q → p.client ≤ q.client)

-- where no two pending offers are of one client, none are after a derivation: a client makes an offer only where it has none pending
abbrev pub PendingClientsDiffer : Type 0
PendingClientsDiffer =
    (program : Program) (log : List Event) (s t : State) →
    IsDerivation program log s t →
    AreOfDifferentClients s.pending →
    AreOfDifferentClients t.pending

-- where some are pending, no two of one client, they may be stalled by their names in the order of clients
abbrev pub StallsNameAll : Type 0
StallsNameAll =
    (s : State) →
    AreOfDifferentClients s.pending →
    (s.pending ≡ [] → ⊥) →
    MayStall s (map name_of (by_client s.pending))

-- an offer that is pending is so by its name
abbrev pub OwnNamesArePending : Type 0
OwnNamesArePending = (s : State) (p : PendingOffer) → Contains s.pending p → IsPending s (name_of p)

-- each number below the number of offers is that of one of them
abbrev pub NumbersAreOfOffers : Type 0
NumbersAreOfOffers = (ps : List PendingOffer) (n : ℕ) → n < length ps → Contains ps (offer_at ps n)

-- the offer that an entry is for, if it is for one, has one of so many numbers
abbrev pub IsForOneOf : {A : Type 0} → ℕ → Next ℕ A → Type 0
IsForOneOf count (takes n a) = n < count
IsForOneOf count deadlocks = Unit {0}
IsForOneOf count (is_beyond n a) = n < count
IsForOneOf count (is_not_now n) = n < count
IsForOneOf count (goes_on those) = Unit {0}
IsForOneOf count stalls = Unit {0}
IsForOneOf count nothing = Unit {0}

-- what the rules decide for numbers of offers is for one of these offers
abbrev pub EntriesAreForOffers : Type 0 → Type 0
EntriesAreForOffers A =
    (count : ℕ) (o : OffersByNumber) (find : Query ℕ → Option (Option A)) (every : Query ℕ → Option (List A)) (next : Next ℕ A) →
    AreOfOffers count o →
    next_decided find every (waiting_of o) ≡ Some next →
    IsForOneOf count next
