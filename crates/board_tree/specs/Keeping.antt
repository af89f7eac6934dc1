-- What a step leaves alone, and what it keeps of nodes and their generations.
use Rattle.std.specs.Prelude.{ℕ, ◌≤◌, ◌⊎◌, List, ◌∷◌}
use Rattle.rule_model.specs.Derivations.{Derivation, parl, parr, both, hiding, pass, enstep, disstep, rel}
use Rattle.node_trees.specs.Generations.{AreApart, IsSound, IsNew}
use Rattle.node_trees.specs.Shapes.{Held, Shape, hidden, relabelled, enabled, beside, disabling, Above, under, first_of, second_of, Stands}

-- the first of these constructs is no relabelling
abbrev pub IsUnrelabelled : List Above → Type 0
IsUnrelabelled (under (relabelled pairs) ∷ up) = ⊥
IsUnrelabelled _ = Unit {0}

-- A step by these rules changes nothing under these constructs, nor in them: they lead, by operators that stay, to a side that takes no
-- part. What was under two relabellings is under a single one afterwards.
abbrev pub IsUntouched : Derivation → List Above → Type 0
IsUntouched (parl d) (first_of (beside gates) ∷ up) = IsUntouched d up
IsUntouched (parl d) (second_of (beside gates) ∷ up) = Unit {0}
IsUntouched (parr d) (first_of (beside gates) ∷ up) = Unit {0}
IsUntouched (parr d) (second_of (beside gates) ∷ up) = IsUntouched d up
IsUntouched (both d e) (first_of (beside gates) ∷ up) = IsUntouched d up
IsUntouched (both d e) (second_of (beside gates) ∷ up) = IsUntouched e up
IsUntouched (hiding d) (under (hidden gates) ∷ up) = IsUntouched d up
IsUntouched (pass d) (under (hidden gates) ∷ up) = IsUntouched d up
IsUntouched (enstep d) (under (enabled xs right values) ∷ up) = IsUntouched d up
IsUntouched (disstep d) (first_of disabling ∷ up) = IsUntouched d up
IsUntouched (disstep d) (second_of disabling ∷ up) = Unit {0}
IsUntouched (rel d) (under (relabelled pairs) ∷ up) = IsUntouched d up × IsUnrelabelled up
IsUntouched _ _ = ⊥

-- Each node of the second tree stood in the first, where nothing changes, with its generation, origin and work, or is new.
abbrev pub Keeps : (List Above → Type 0) → ℕ → ℕ → Shape → Shape → Type 0
Keeps same low high old new = (up : List Above) (n : Held) → Stands new up n → (Stands old up n × same up) ⊎ IsNew low high n

-- Each node of the first tree where nothing changes stands in the second, with its generation, origin and work.
abbrev pub Leaves : (List Above → Type 0) → Shape → Shape → Type 0
Leaves same old new = (up : List Above) (n : Held) → Stands old up n → same up → Stands new up n

-- one step leads from the first tree to the second, where nothing changes at these places
pub record Advances (same : List Above → Type 0) (low high : ℕ) (old new : Shape) : Type 0 where
  pub more : low ≤ high
  pub apart : AreApart new
  pub keeps : Keeps same low high old new
  pub leaves : Leaves same old new

-- the same, where the generations of the first tree are sound
pub record Goes (same : List Above → Type 0) (low high : ℕ) (old new : Shape) : Type 0 where
  pub advances : IsSound old low → Advances same low high old new
