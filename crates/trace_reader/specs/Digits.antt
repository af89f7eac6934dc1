-- Where a number ends.
use Rattle.std.specs.Prelude.{ℕ, ◌≡◌, Bool, true, false, List, [], ◌∷◌, Option, Some, None}
use Rattle.std.specs.Borrow.{Bor}
use Rattle.std.specs.Char.{is_ascii_digit}
use Rattle.spec_core.specs.Lists.{Each}

-- a digit comes first
abbrev pub begins_digit : List ℕ → Bool
begins_digit [] = false
begins_digit (b ∷ bs) = is_ascii_digit b

abbrev pub AreDigits : List ℕ → Type 0
AreDigits bs = Each (λ b. is_ascii_digit b ≡ true) bs

-- a number may end before this text
abbrev pub EndsNumber : List ℕ → Type 0
EndsNumber bs = begins_digit bs ≡ false

-- this number, with this behind it
abbrev pub IsNumberAt : Option (ℕ × Bor (List ℕ)) → ℕ → List ℕ → Type 0
IsNumberAt None n rest = ⊥
IsNumberAt (Some r) n rest = (r.0 ≡ n) × (r.1.now ≡ rest)
