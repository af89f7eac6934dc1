-- Which rows the search looks at for a pattern, by their numbers.
use Rattle.std.specs.Prelude.{ℕ, ◌≡◌, ◌<◌, ◌⊎◌, List, [], ◌∷◌, ◌++◌, length}
use Rattle.std.specs.List.{slice_get}
use Rattle.spec_core.specs.Lists.{Each, IsOneOf}
use Rattle.spec_core.specs.Sorts.{OnSome}
use Rattle.spec_core.specs.Terms.{TermTrees}
use Rattle.equation_shapes.specs.Shapes.{AreOfShape, MeetAll}
use Rattle.cover_search.specs.Search.{arguments_of}
use Rattle.cover_search.specs.declared.pending.Pending.{Pending}

-- the row of a number meets the pattern, or covers it

abbrev pub MeetsAt : List TermTrees → TermTrees → ℕ → Type 0
MeetsAt rows ps n = OnSome (slice_get rows n) (λ r. MeetAll r ps)

abbrev pub CoversAt : List TermTrees → TermTrees → ℕ → Type 0
CoversAt rows ps n = OnSome (slice_get rows n) (λ r. AreOfShape r ps)

-- these are numbers of rows, and those of all rows that meet the pattern are among them
pub record AreCandidates (rows : List TermTrees) (ps : TermTrees) (numbers : List ℕ) : Type 0 where
  pub within : Each (λ n. n < length rows) numbers
  pub whole : (n : ℕ) → MeetsAt rows ps n → IsOneOf n numbers

-- these are the numbers of the rows that meet the pattern
pub record AreMeeting (rows : List TermTrees) (ps : TermTrees) (numbers : List ℕ) : Type 0 where
  pub meet : Each (MeetsAt rows ps) numbers
  pub whole : (n : ℕ) → MeetsAt rows ps n → IsOneOf n numbers

-- the number was put behind these, if its row meets the pattern
abbrev pub IsMeetingAdded : List TermTrees → TermTrees → ℕ → List ℕ → List ℕ → Type 0
IsMeetingAdded rows ps n old new = MeetsAt rows ps n × (new ≡ old ++ n ∷ []) ⊎ (MeetsAt rows ps n → ⊥) × (new ≡ old)

-- what stands on the stack with a pattern
abbrev pub HasCandidates : List TermTrees → Pending → Type 0
HasCandidates rows p = AreCandidates rows (arguments_of p.pattern) p.candidates.items
