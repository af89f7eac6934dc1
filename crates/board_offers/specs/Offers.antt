-- Offers by their numbers. (This profile.)
use Rattle.std.specs.Prelude.{ℕ, List, [], unwrap_or, false}
use Rattle.std.specs.List.{slice_get}
use Rattle.rule_model.specs.States.{PendingOffer}

-- What stands for an offer that there isn't: a search for it is one for this, which no client made. The caller's numbers are of offers that
-- there are.
abbrev pub no_offer : PendingOffer
no_offer = record { client = 0; number = 0; offer = record { gate = record { 0 = 0 }; fields = [] }; ask = false }

-- the offer with a number, which is its place
abbrev pub offer_at : List PendingOffer → ℕ → PendingOffer
offer_at offers n = unwrap_or (slice_get offers n) no_offer
