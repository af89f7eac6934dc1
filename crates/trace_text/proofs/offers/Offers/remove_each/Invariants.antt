use Rattle.std.proofs.Common.{List, take}
use Rattle.rule_model.specs.Events.{OfferName}
use Rattle.trace_text.specs.Pending.{without_offers}
use Rattle.trace_text.specs.Standing.{HasOffers}
use Rattle.trace_text.proofs.offers.Offers.remove_each.Given as goal

abbrev pub invariant-loop-name : goal.invariant-loop-name
invariant-loop-name l =
    (offers : List OfferName) → HasOffers l.initial.self offers → HasOffers l.self (without_offers (take l.name-index l.names) offers)
