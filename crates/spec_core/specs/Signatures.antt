-- What a signature declares.
use Rattle.std.specs.Prelude.{ℕ, ◌≡◌, List}
use Rattle.std.specs.List.{slice_get}
use Rattle.spec_core.specs.Names.{IsSameName}
use Rattle.spec_core.specs.Sorts.{OnSome}
use Rattle.spec_core.specs.Theories.{Operation}

-- the sort of this number has this name
abbrev pub IsSortNamed : List (List ℕ) → List ℕ → ℕ → Type 0
IsSortNamed sorts name sort = OnSome (slice_get sorts sort) (λ other. IsSameName other name)

-- the operation has this name, these argument sorts and this result sort
abbrev pub IsDeclaredAs : List ℕ → List ℕ → ℕ → Operation → Type 0
IsDeclaredAs name args sort d = IsSameName d.name name × (d.args ≡ args) × (d.result ≡ sort)

-- the operation of this number has this name, these argument sorts and this result sort
abbrev pub IsOperationAt : List Operation → ℕ → List ℕ → List ℕ → ℕ → Type 0
IsOperationAt operations f name args sort = OnSome (slice_get operations f) (IsDeclaredAs name args sort)
