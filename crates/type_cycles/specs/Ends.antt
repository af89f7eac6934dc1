-- Types from which no way goes on for ever.
use Rattle.std.specs.Prelude.{ℕ, ◌≡◌, Bool, true, List, [], length}
use Rattle.std.specs.List.{slice_index_or, Contains}

-- a type ends where each of which it is made ends
pub data Ends (links : List (List ℕ)) : ℕ → Type 0 where
  ends : {k : ℕ} → ((j : ℕ) → Contains (slice_index_or links k []) j → Ends links j) → Ends links k

-- whether a type is marked; a number past the end stands for no type, and counts as marked
abbrev pub is_marked : List Bool → ℕ → Bool
is_marked marks k = slice_index_or marks k true

-- there is a mark for each type, and the marked ones end
pub record MarksEnds (links : List (List ℕ)) (marks : List Bool) : Type 0 where
  pub as_many : length marks ≡ length links
  pub end : (k : ℕ) → is_marked marks k ≡ true → Ends links k
