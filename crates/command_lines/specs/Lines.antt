-- The lines of an input, as far as it was read. Lines end as in a script (docs/FORMATS.md, "Scripts").
use Rattle.std.specs.Prelude.{ℕ, ◌≡◌, ◌++◌, ◌==◌, ◌⊎◌, List, [], ◌∷◌, false}
use Rattle.std.specs.Str.Lines.{lines}
use Rattle.spec_core.specs.Lists.{Each}

-- whole lines: there is none, or the last byte is LF
abbrev pub AreWhole : List ℕ → Type 0
AreWhole bytes = (bytes ≡ []) ⊎ ((front : List ℕ) × (bytes ≡ front ++ 10 ∷ []))

-- no byte is LF, so no line ends in them
abbrev pub IsUnended : List ℕ → Type 0
IsUnended bytes = Each (λ b. (b == 10) ≡ false) bytes

-- those lines that aren't empty
abbrev pub filled : List (List ℕ) → List (List ℕ)
filled [] = []
filled ([] ∷ more) = filled more
filled ((b ∷ bs) ∷ more) = (b ∷ bs) ∷ filled more

-- the lines of a text that aren't empty
abbrev pub said : List ℕ → List (List ℕ)
said bytes = filled (lines bytes)

-- behind whole lines come the lines of what stands behind them
abbrev pub LinesComeInParts : Type 0
LinesComeInParts = (whole rest : List ℕ) → AreWhole whole → lines (whole ++ rest) ≡ lines whole ++ lines rest
