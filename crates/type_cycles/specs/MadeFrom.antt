-- What a type is made from, directly or through others.
use Rattle.std.specs.Prelude.{ℕ, ◌≡◌, ◌↔◌, List, [], None}
use Rattle.std.specs.List.{slice_index_or, Contains}
use Rattle.type_cycles.specs.Cycles.{first_cycle}

-- one type is made from another
pub data IsMadeFrom (links : List (List ℕ)) : ℕ → ℕ → Type 0 where
  directly : {k j : ℕ} → Contains (slice_index_or links k []) j → IsMadeFrom links k j
  through : {k j to : ℕ} → Contains (slice_index_or links k []) j → IsMadeFrom links j to → IsMadeFrom links k to

-- no type is made from itself
abbrev pub AreAcyclic : List (List ℕ) → Type 0
AreAcyclic links = (k : ℕ) → IsMadeFrom links k k → ⊥

-- there is a first cycle exactly where a type is made from itself
abbrev pub NoCycleWhereAcyclic : Type 0
NoCycleWhereAcyclic = (links : List (List ℕ)) → (first_cycle links ≡ None) ↔ AreAcyclic links
