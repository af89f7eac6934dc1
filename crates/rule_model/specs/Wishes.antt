-- What clients wish.
use Rattle.std.specs.Prelude.{Bool}
use Rattle.rule_model.specs.declared.offer.Offer.{Offer}

-- an offer that a client wishes to make, or to ask
pub record Wish : Type 0 where
  pub offer : Offer
  pub ask : Bool
