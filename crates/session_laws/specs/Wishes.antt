-- What the clients of a session wish. (This profile.)
use Rattle.std.specs.Prelude.{ℕ, List, map}
use Rattle.rule_model.specs.Events.{Event}
use Rattle.rule_model.specs.States.{PendingOffer}
use Rattle.rule_model.specs.Wishes.{Wish}
use Rattle.session_laws.specs.Answers.{offers_by}

-- what is wished by an offer: all of it but whose it is, and its number
abbrev pub wish_in : PendingOffer → Wish
wish_in p = record { offer = p.offer; ask = p.ask }

-- what a client wishes by its offers, in order
abbrev pub wishes_by : ℕ → List Event → List Wish
wishes_by client log = map wish_in (offers_by client log)
