-- The offers of each client in a log, and their answers. (This profile.)
use Rattle.std.specs.Prelude.{ℕ, ◌+◌, ◌≡◌, List, [], ◌∷◌, filter, map, nat_eq}
use Rattle.rule_model.specs.Answering.{name_of, offers_in, answered_in}
use Rattle.rule_model.specs.Events.{Event, OfferName}
use Rattle.rule_model.specs.States.{PendingOffer}
use Rattle.rule_model.specs.Wishes.{Wish}

-- those of a client
abbrev pub of_client : ℕ → List PendingOffer → List PendingOffer
of_client client ps = filter (λ p. nat_eq p.client client) ps

abbrev pub offers_by : ℕ → List Event → List PendingOffer
offers_by client log = of_client client (offers_in log)

-- the names that are a client's
abbrev pub names_of : ℕ → List OfferName → List OfferName
names_of client names = filter (λ name. nat_eq name.0 client) names

-- the names of a client's offers that are answered, once for each answer, in order
abbrev pub answered_to : ℕ → List Event → List OfferName
answered_to client log = names_of client (answered_in log)

-- wishes of a client as its offers, with their numbers from this one on
abbrev pub numbered_for : ℕ → ℕ → List Wish → List PendingOffer
numbered_for client n [] = []
numbered_for client n (wish ∷ wishes) =
    record { client = client; number = n; offer = wish.offer; ask = wish.ask } ∷ numbered_for client (n + 1) wishes

-- the offers of this client in the log are just these wishes, in order, each with exactly one answer
pub record AnswersClient (client : ℕ) (wishes : List Wish) (log : List Event) : Type 0 where
  pub offers : offers_by client log ≡ numbered_for client 1 wishes
  pub answers : answered_to client log ≡ map name_of (numbered_for client 1 wishes)
