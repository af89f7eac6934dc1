-- Numbers of offers, which are their places, and lists of them.
use Rattle.std.specs.Prelude.{ℕ, ◌+◌, ◌<◌, List, [], ◌∷◌, Option, Some, None, nat_lt, if◌then◌else◌}
use Rattle.spec_core.specs.Lists.{Each}
use Rattle.rule_model.specs.Events.{OfferName}
use Rattle.rule_model.specs.States.{PendingOffer}
use Rattle.decision_order.specs.declared.listing.OffersByNumber.{OffersByNumber}

-- how many of the offers are before the first one whose client isn't less than this one
abbrev pub place_by_client : ℕ → List PendingOffer → ℕ
place_by_client client [] = 0
place_by_client client (q ∷ qs) = if nat_lt q.client client then place_by_client client qs + 1 else 0

-- these are numbers of offers, of which there are so many
abbrev pub AreNumbers : ℕ → List ℕ → Type 0
AreNumbers count ns = Each (λ n. n < count) ns

-- each number is that of an offer, of which there are so many
pub record AreOfOffers (count : ℕ) (o : OffersByNumber) : Type 0 where
  pub pending : AreNumbers count o.pending.items
  pub asks : AreNumbers count o.asks.items
  pub by_client : AreNumbers count o.by_client.items

-- the first of two names, unless the client of the second, where there is one, is less
abbrev pub lesser_name : OfferName → Option OfferName → OfferName
lesser_name name None = name
lesser_name name (Some second) = if nat_lt second.0 name.0 then second else name
