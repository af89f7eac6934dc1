-- Lists of entries. Each entry names the seat that made it, or none: `maker` gives that number.
use Rattle.std.specs.Prelude.{◌≡◌, ◌==◌, ℕ, ◌<◌, Bool, false, List, ◌++◌, filter, All, Option, Some, None}

-- ys begins with xs
abbrev pub Begins : {E : Type 0} → List E → List E → Type 0
Begins {E} xs ys = (rest : List E) × (ys ≡ xs ++ rest)

-- whether the seat n is named
abbrev pub is_named : ℕ → Option ℕ → Bool
is_named n None = false
is_named n (Some k) = n == k

module _ {E : Type 0} (maker : E → Option ℕ) where
  -- the entries that the seat n made, in order
  abbrev pub made_by : ℕ → List E → List E
  made_by n xs = filter (λ e. is_named n (maker e)) xs

  -- each entry that names a seat names the seat n
  abbrev pub NamesOnly : ℕ → List E → Type 0
  NamesOnly n xs = All (λ e. (k : ℕ) → maker e ≡ Some k → k ≡ n) xs

  -- each entry that names a seat names one below n
  abbrev pub NamesBelow : ℕ → List E → Type 0
  NamesBelow n xs = All (λ e. (k : ℕ) → maker e ≡ Some k → k < n) xs

  -- ys begins with xs, and each new entry that names a seat names the seat n
  abbrev pub Continues : ℕ → List E → List E → Type 0
  Continues n xs ys = (more : List E) × (ys ≡ xs ++ more) × NamesOnly n more
