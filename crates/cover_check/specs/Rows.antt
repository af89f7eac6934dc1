-- One more row.
use Rattle.std.specs.Prelude.{ℕ, ◌≡◌, ◌⊎◌, List, [], ◌∷◌, ◌++◌}
use Rattle.spec_core.specs.Terms.{TermTrees, apply}
use Rattle.spec_core.specs.Theories.{ConditionalEquation, Theory}
use Rattle.cover_groups.specs.Groups.{HasFullGroup}

-- where the equation is of f and its group is full, the arguments of its left side were added to the rows
abbrev pub IsRowAdded : Theory → ℕ → ConditionalEquation → List TermTrees → List TermTrees → Type 0
IsRowAdded theory f e old new =
    ((r : TermTrees) × (e.left ≡ apply f r) × HasFullGroup theory e × (new ≡ old ++ r ∷ [])) ⊎
    (((r : TermTrees) → e.left ≡ apply f r → HasFullGroup theory e → ⊥) × (new ≡ old))
