-- A number that counts through a list, round by round.
use Rattle.std.specs.Prelude.{ℕ, ◌≡◌, ◌+◌, ◌*◌, List, length, reverse, Option, Some, None, Vec}
use Rattle.std.specs.List.{slice_get}
use Rattle.std.specs.declared.alloc.Global.{Global}

-- n goes round the list so many times, and then up to this element
pub record IsRound {B : Type 0} (ys : List B) (n : ℕ) (y : B) (rounds : ℕ) : Type 0 where
  pub place : ℕ
  pub there : slice_get ys place ≡ Some y
  pub counts : n ≡ rounds * length ys + place

-- the same, or there is no element
abbrev pub RoundOr : {B : Type 0} → List B → ℕ → Option (B × ℕ) → Type 0
RoundOr ys n None = length ys ≡ 0
RoundOr ys n (Some r) = IsRound ys n r.0 r.1

-- a list that is kept from its last element on, and a number
abbrev pub forwards : {A : Type 0} → Vec A Global × ℕ → List A × ℕ
forwards r = (reverse r.0.items, r.1)
