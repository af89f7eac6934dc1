-- Which offers a log holds, and which of them it answers.
use Rattle.std.specs.Prelude.{ℕ, ◌+◌, ◌≡◌, List, [], ◌∷◌, ◌++◌, map, Some, None}
use Rattle.rule_model.specs.Events.{OfferName, Event, pended, acted, replied, stalled, left}
use Rattle.rule_model.specs.States.{PendingOffer}
use Rattle.rule_model.specs.Wishes.{Wish}

abbrev pub name_of : PendingOffer → OfferName
name_of p = (p.client, p.number)

-- the offers that clients make, in order
abbrev pub offers_in : List Event → List PendingOffer
offers_in [] = []
offers_in (pended client number offer ask ∷ log) = record { client = client; number = number; offer = offer; ask = ask } ∷ offers_in log
offers_in (acted action d by ∷ log) = offers_in log
offers_in (replied client number answer ∷ log) = offers_in log
offers_in (stalled names ∷ log) = offers_in log
offers_in (left client ∷ log) = offers_in log

-- the offers that are answered, once for each answer, in order
abbrev pub answered_in : List Event → List OfferName
answered_in [] = []
answered_in (pended client number offer ask ∷ log) = answered_in log
answered_in (acted action d None ∷ log) = answered_in log
answered_in (acted action d (Some name) ∷ log) = name ∷ answered_in log
answered_in (replied client number answer ∷ log) = (client, number) ∷ answered_in log
answered_in (stalled names ∷ log) = names ++ answered_in log
answered_in (left client ∷ log) = answered_in log

-- wishes of client 1 as its offers, with their numbers from this one on
abbrev pub numbered : ℕ → List Wish → List PendingOffer
numbered n [] = []
numbered n (wish ∷ wishes) = record { client = 1; number = n; offer = wish.offer; ask = wish.ask } ∷ numbered (n + 1) wishes

-- the offers of the log are just these wishes of client 1, in order, each with exactly one answer
pub record AnswersEach (wishes : List Wish) (log : List Event) : Type 0 where
  pub offers : offers_in log ≡ numbered 1 wishes
  pub answers : answered_in log ≡ map name_of (numbered 1 wishes)
