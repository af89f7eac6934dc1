-- Seats that are joined when the lock is closed.
use Rattle.std.specs.Prelude.{◌≡◌, ◌⊎◌, List, [], ◌∷◌}
use Rattle.std.specs.List.{AllByRecursion}
use Rattle.turn_lock.specs.declared.rule.Account.{Account}
use Rattle.turn_lock.specs.Seats.{SeatModel}

module _ {E : Type 0} where
  -- a seat's number, the list that it has seen and its own entries
  abbrev pub account_of : SeatModel E → Account E
  account_of seat = record { number = seat.number; seen = seat.seen; own = seat.own }

  -- this account is among those
  abbrev pub HasAccount : List (Account E) → Account E → Type 0
  HasAccount [] a = ⊥
  HasAccount (b ∷ rest) a = (b ≡ a) ⊎ HasAccount rest a

  -- the account of each seat is among those
  abbrev pub AllNoted : List (Account E) → List (SeatModel E) → Type 0
  AllNoted accounts seats = AllByRecursion (λ seat. HasAccount accounts (account_of seat)) seats
