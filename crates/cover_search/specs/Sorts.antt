-- Sorts that have a value.
use Rattle.std.specs.Prelude.{ℕ, ◌≡◌, ◌↔◌, List, Bool, Some}
use Rattle.std.specs.List.{slice_get}
use Rattle.equation_sets.specs.Members.{IsIn}
use Rattle.spec_core.specs.Lists.{Each}
use Rattle.spec_core.specs.Terms.{TermTree}
use Rattle.spec_core.specs.Theories.{Operation, Theory}
use Rattle.spec_core.specs.Sorts.{HasSort, no_variables, OnSome}
use Rattle.spec_core.specs.Constructors.{IsConstructor, IsConstructed}

-- some ground constructor term has the sort
abbrev pub IsInhabited : Theory → ℕ → Type 0
IsInhabited theory sort = (t : TermTree) × HasSort theory no_variables t sort × IsConstructed theory t

-- the set has just the sorts that have a ground constructor term
abbrev pub AreInhabited : Theory → List Bool → Type 0
AreInhabited theory set = (s : ℕ) → IsIn s set ↔ IsInhabited theory s

-- all numbers of the list are in the set
abbrev pub AreIn : List Bool → List ℕ → Type 0
AreIn set sorts = Each (λ s. IsIn s set) sorts

-- each sort of the set is inhabited
abbrev pub AllInhabited : Theory → List Bool → Type 0
AllInhabited theory set = (s : ℕ) → IsIn s set → IsInhabited theory s

-- the operation has these sorts
abbrev pub IsDeclaredAt : Theory → ℕ → List ℕ → ℕ → Type 0
IsDeclaredAt theory c args result = OnSome (slice_get theory.operations c) (λ d. (d.args ≡ args) × (d.result ≡ result))

-- if the operation is a constructor over sorts of the set, its result sort is in the set
abbrev pub IsClosedAt : Theory → List Bool → ℕ → Type 0
IsClosedAt theory set c =
    (d : Operation) → slice_get theory.operations c ≡ Some d → IsConstructor theory c → AreIn set d.args → IsIn d.result set
