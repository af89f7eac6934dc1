-- Sorts that may have other values than ground constructor terms. (This profile.)
use Rattle.std.specs.Prelude.{ℕ, ◌≡◌, Option}
use Rattle.std.specs.List.{slice_get}
use Rattle.spec_core.specs.Lists.{OneOf, IsOneOf}
use Rattle.spec_core.specs.Theories.{Premise, premise, Theory, Heads}
use Rattle.spec_core.specs.Sorts.{OnSome, HasSort}
use Rattle.spec_core.specs.Cover.{IsPartial}

-- the operation gives the sort
abbrev pub GivesSort : Theory → ℕ → ℕ → Type 0
GivesSort theory f sort = OnSome (slice_get theory.operations f) (λ d. d.result ≡ sort)

-- the operation has an argument of the sort
abbrev pub TakesSort : Theory → ℕ → ℕ → Type 0
TakesSort theory f sort = OnSome (slice_get theory.operations f) (λ d. IsOneOf sort d.args)

-- the sides of the premise are of the sort, over variables of these sorts
abbrev pub IsOfSort : Theory → (ℕ → Option ℕ) → ℕ → Premise → Type 0
IsOfSort theory vars sort (premise a b) = HasSort theory vars a sort × HasSort theory vars b sort

-- the operation heads an equation with a premise whose sides are of the sort
abbrev pub AsksSort : Theory → ℕ → ℕ → Type 0
AsksSort theory f sort = OneOf (λ e. Heads f e × OneOf (IsOfSort theory (slice_get e.sorts) sort) e.premises) theory.equations

-- an open sort: one that is given by a partial operation, or by one that has an argument of an open sort, or asks a premise whose sides
-- are of an open sort
pub data IsOpen (theory : Theory) : ℕ → Type 0 where
  by_partial : {sort : ℕ} (f : ℕ) → GivesSort theory f sort → IsPartial theory f → IsOpen theory sort
  by_argument : {sort : ℕ} (f other : ℕ) → GivesSort theory f sort → TakesSort theory f other → IsOpen theory other → IsOpen theory sort
  by_premise : {sort : ℕ} (f other : ℕ) → GivesSort theory f sort → AsksSort theory f other → IsOpen theory other → IsOpen theory sort
