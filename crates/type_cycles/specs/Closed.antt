-- What one type is made of, directly or through others, as marks of types.
use Rattle.std.specs.Prelude.{ℕ, ◌≡◌, ◌⊎◌, Bool, true, List, []}
use Rattle.std.specs.List.{slice_index_or, Contains}
use Rattle.type_cycles.specs.Ends.{is_marked}

-- a type is marked, or it is among these
abbrev pub IsMarkedOrIn : List Bool → List ℕ → ℕ → Type 0
IsMarkedOrIn marks waiting j = (is_marked marks j ≡ true) ⊎ Contains waiting j

-- each type of which a marked one, or this one, is made is marked or waits to be
pub record IsClosedBut (links : List (List ℕ)) (k : ℕ) (marks : List Bool) (waiting : List ℕ) : Type 0 where
  pub from_marked : (i j : ℕ) → is_marked marks i ≡ true → Contains (slice_index_or links i []) j → IsMarkedOrIn marks waiting j
  pub from_this : (j : ℕ) → Contains (slice_index_or links k []) j → IsMarkedOrIn marks waiting j

-- marks after these types were marked, with what waits then: no mark is lost, these are marked, and of what is new all that it is made of
-- waits
pub record Marks (links : List (List ℕ)) (types : List ℕ) (old new : List Bool) (waiting : List ℕ) : Type 0 where
  pub kept : (i : ℕ) → is_marked old i ≡ true → is_marked new i ≡ true
  pub marked : (j : ℕ) → Contains types j → is_marked new j ≡ true
  pub waits : (i j : ℕ) → is_marked new i ≡ true → Contains (slice_index_or links i []) j → (is_marked old i ≡ true) ⊎ Contains waiting j

-- the same of one type, with what waited before
pub record IsReached (links : List (List ℕ)) (k : ℕ) (old new : List Bool) (before waiting : List ℕ) : Type 0 where
  pub kept : (i : ℕ) → is_marked old i ≡ true → is_marked new i ≡ true
  pub marked : is_marked new k ≡ true
  pub waits : (i j : ℕ) → is_marked new i ≡ true → Contains (slice_index_or links i []) j → (is_marked old i ≡ true) ⊎ Contains waiting j
  pub still : (j : ℕ) → Contains before j → Contains waiting j
