-- Operations that are covered, and the rows of one. (This profile.)
use Rattle.std.specs.Prelude.{ℕ, ◌≡◌, ◌⊎◌, List, [], ◌∷◌}
use Rattle.spec_core.specs.Constructors.{IsConstructor, AreConstructed}
use Rattle.spec_core.specs.Cover.{IsCoveredCall}
use Rattle.spec_core.specs.Sorts.{HaveSorts, no_variables}
use Rattle.spec_core.specs.Terms.{TermTrees, apply}
use Rattle.spec_core.specs.Theories.{Operation, ConditionalEquation, Theory}
use Rattle.cover_groups.specs.Groups.{HasFullGroup}

-- the operation is covered: it is a constructor, or each call of it over values matches a left side whose group is full
abbrev pub IsCoveredOperation : Theory → ℕ → Operation → Type 0
IsCoveredOperation theory f d =
    (vs : TermTrees) → (IsConstructor theory f → ⊥) → HaveSorts theory no_variables vs d.args → AreConstructed theory vs →
    IsCoveredCall theory (apply f vs)

-- the arguments of the left sides of f's full groups among these equations, in their order
abbrev pub AreRows : Theory → ℕ → List ConditionalEquation → List TermTrees → Type 0
AreRows theory f [] rows = rows ≡ []
AreRows theory f (e ∷ es) rows =
    ((r : TermTrees) × (e.left ≡ apply f r) × HasFullGroup theory e ×
    ((rest : List TermTrees) × (rows ≡ r ∷ rest) × AreRows theory f es rest)) ⊎
    (((r : TermTrees) → e.left ≡ apply f r → HasFullGroup theory e → ⊥) × AreRows theory f es rows)
