-- A text put together from a front and what is behind it.
use Rattle.std.specs.Prelude.{ℕ, ◌≡◌, List, Option, Some, None}

-- it is this text
abbrev pub IsFound : Option (List ℕ) → List ℕ → Type 0
IsFound None text = ⊥
IsFound (Some found) text = found ≡ text
