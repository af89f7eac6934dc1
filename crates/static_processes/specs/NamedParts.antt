-- Processes by the `where` parts in which they stand and by their names, as the code keeps them.
use Rattle.std.specs.Prelude.{ℕ, ◌≡◌, List, [], ◌∷◌, ◌++◌, Option, Some, None, nat_eq}
use Rattle.std.specs.List.{filter_map, slice_get}
use Rattle.std.specs.Prelude.{unwrap_or}
use Rattle.indexmap.specs.IndexMap.{get}
use Rattle.static_readings.specs.Sites.{Heading}
use Rattle.static_processes.specs.Processes.{Entry, standing_in}
use Rattle.static_processes.specs.declared.named_parts.NamedParts.{NamedParts}

-- the headings of these numbers
abbrev pub headings_at : List Heading → List ℕ → List Heading
headings_at headings numbers = filter_map (λ n. slice_get headings n) numbers

-- those of the part of the process of this number
abbrev pub inner_at : NamedParts → ℕ → List Heading
inner_at parts p = unwrap_or (get nat_eq parts.inner p) []

-- where there is none, those of the specification's part
abbrev pub processes_at : NamedParts → Option ℕ → List Heading
processes_at parts None = parts.outer
processes_at parts (Some p) = inner_at parts p

-- those that can be called within these, those of the innermost part first
abbrev pub processes_within : NamedParts → List ℕ → List Heading
processes_within parts [] = processes_at parts None
processes_within parts (p ∷ around) = processes_at parts (Some p) ++ processes_within parts around

-- the parts are those of these processes, which have these headings
abbrev pub AreNamedPartsOf : NamedParts → List Heading → List Entry → Type 0
AreNamedPartsOf parts headings table = (within : Option ℕ) → processes_at parts within ≡ headings_at headings (standing_in table within)
