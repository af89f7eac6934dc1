-- Sets of small numbers, as a list with a flag for each number.
use Rattle.std.specs.Prelude.{ℕ, List, Bool, IsTrue, false}
use Rattle.std.specs.List.{slice_index_or}

-- the number is in the set; one that has no flag isn't
abbrev pub IsIn : ℕ → List Bool → Type 0
IsIn n flags = IsTrue (slice_index_or flags n false)
