-- The values for the variables of a part that was entered.
use Rattle.std.specs.Prelude.{ℕ, List, Option, Some, None, Vec}
use Rattle.std.specs.declared.alloc.Global.{Global}

-- its own, or those of the whole where it has none
abbrev pub own_or : List (ℕ × List ℕ) → Option (Vec (ℕ × List ℕ) Global) → List (ℕ × List ℕ)
own_or values None = values
own_or values (Some own) = own.items
