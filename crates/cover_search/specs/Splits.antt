-- Rows by what they have at a place, as the code keeps them.
use Rattle.std.specs.Prelude.{ℕ, ◌≡◌, nat_eq, List, [], ◌∷◌, Option, None, Some, Vec, if◌then◌else◌}
use Rattle.std.specs.List.{flat_map, slice_index_or}
use Rattle.std.specs.Option.{option_map_or}
use Rattle.std.specs.declared.alloc.Global.{Global}
use Rattle.indexmap.specs.IndexMap.{get}
use Rattle.spec_core.specs.Terms.{TermTrees, no_terms}
use Rattle.cover_search.specs.Search.{operation_there_in}
use Rattle.cover_search.specs.declared.split.Split.{Split}

-- the numbers that are there for an operation, or for none
abbrev pub numbers_at : Split → Option ℕ → List ℕ
numbers_at split None = split.others.items
numbers_at split (Some f) = option_map_or (λ (numbers : Vec ℕ Global). numbers.items) (get nat_eq split.places f) []

-- a number as a list, where these are one
abbrev pub number_if : Option ℕ → Option ℕ → ℕ → List ℕ
number_if None None n = n ∷ []
number_if (Some f) (Some g) n = if nat_eq f g then n ∷ [] else []
number_if None (Some g) n = []
number_if (Some f) None n = []

-- what the row of a number has where the leftmost variable of the pattern faces an operation of the first row
abbrev pub operation_at : List TermTrees → TermTrees → TermTrees → ℕ → Option ℕ
operation_at rows row ps n = operation_there_in row ps (slice_index_or rows n no_terms)

-- the numbers are parted by what their rows have there
abbrev pub IsSplitOf : Split → List TermTrees → TermTrees → TermTrees → List ℕ → Type 0
IsSplitOf split rows row ps numbers = (o : Option ℕ) → numbers_at split o ≡ flat_map (λ n. number_if o (operation_at rows row ps n) n) numbers
