-- Windows: the first values of a sort. (This profile.)
use Rattle.std.specs.Prelude.{ℕ, ◌≡◌, ◌⊎◌, ◌<◌, ◌≤◌, List, [], ◌∷◌, length, Bool, IsTrue, ◌↔◌}
use Rattle.std.specs.List.{Contains}
use Rattle.spec_core.specs.Lists.{Each}
use Rattle.spec_core.specs.Terms.{TermTree, preorder}
use Rattle.spec_core.specs.Theories.{Theory}
use Rattle.spec_core.specs.Sorts.{HasSort, no_variables}
use Rattle.spec_core.specs.Constructors.{IsConstructed}
use Rattle.spec_core.specs.OpenSorts.{IsOpen}

-- at the first place at which two lists differ, the first has the lesser number
abbrev pub IsLess : List ℕ → List ℕ → Type 0
IsLess (x ∷ xs) (y ∷ ys) = (x < y) ⊎ (x ≡ y) × IsLess xs ys
IsLess [] [] = ⊥
IsLess [] (y ∷ ys) = ⊥
IsLess (x ∷ xs) [] = ⊥

-- by number of symbols, then by the list of operations
abbrev pub IsBefore : List ℕ → List ℕ → Type 0
IsBefore xs ys = (length xs < length ys) ⊎ (length xs ≡ length ys) × IsLess xs ys

abbrev pub IsInOrder : List (List ℕ) → Type 0
IsInOrder [] = Unit {0}
IsInOrder (v ∷ vs) = Each (λ w. IsBefore v w) vs × IsInOrder vs

-- a list of operations that spells a ground constructor term of the sort
abbrev pub IsMember : Theory → ℕ → List ℕ → Type 0
IsMember theory sort v = (t : TermTree) × (v ≡ preorder t) × HasSort theory no_variables t sort × IsConstructed theory t

-- the first k members of a sort, in order, and whether these are all of the sort's values: there are no more members, and the sort isn't
-- open
pub record IsWindow (theory : Theory) (sort k : ℕ) (values : List (List ℕ)) (complete : Bool) : Type 0 where
  pub members : Each (IsMember theory sort) values
  pub in_order : IsInOrder values
  pub at_most : length values ≤ k
  pub first : (v : List ℕ) → IsMember theory sort v → Contains values v ⊎ (length values ≡ k) × Each (λ w. IsBefore w v) values
  pub all : IsTrue complete ↔ ((v : List ℕ) → IsMember theory sort v → Contains values v) × (IsOpen theory sort → ⊥)
