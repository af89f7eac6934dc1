-- Offers that are pending behind the lines of a log, whether the log fits or not: those that a line makes, and no later line answers.
use Rattle.std.specs.Prelude.{◌≡◌, ◌&&◌, Bool, not, true, false, nat_eq, if◌then◌else◌, List, [], ◌∷◌, filter, Option, Some, None}
use Rattle.std.specs.List.{list_any}
use Rattle.rule_model.specs.Events.{OfferName, Event, pended, acted, replied, stalled, left}

abbrev pub is_same_offer : OfferName → OfferName → Bool
is_same_offer x y = nat_eq x.0 y.0 && nat_eq x.1 y.1

abbrev pub is_among : OfferName → List OfferName → Bool
is_among name offers = list_any (is_same_offer name) offers

-- the offers and this one, once
abbrev pub with_offer : OfferName → List OfferName → List OfferName
with_offer name offers = if is_among name offers then offers else name ∷ offers

abbrev pub without_offer : OfferName → List OfferName → List OfferName
without_offer name offers = filter (λ other. not (is_same_offer name other)) offers

abbrev pub without_taken : Option OfferName → List OfferName → List OfferName
without_taken None offers = offers
without_taken (Some name) offers = without_offer name offers

abbrev pub without_offers : List OfferName → List OfferName → List OfferName
without_offers [] offers = offers
without_offers (name ∷ names) offers = without_offers names (without_offer name offers)

-- the offers that are pending behind an event, where these are pending before it
abbrev pub pending_behind : List OfferName → Event → List OfferName
pending_behind offers (pended client number offer ask) = with_offer (client, number) offers
pending_behind offers (acted action d by) = without_taken by offers
pending_behind offers (replied client number answer) = without_offer (client, number) offers
pending_behind offers (stalled names) = without_offers names offers
pending_behind offers (left client) = offers

-- each offer is there once
abbrev pub IsOnce : List OfferName → Type 0
IsOnce [] = Unit {0}
IsOnce (name ∷ offers) = (is_among name offers ≡ false) × IsOnce offers
