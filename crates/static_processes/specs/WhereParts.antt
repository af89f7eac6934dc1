-- Processes by the `where` parts in which they stand, as the code keeps them.
use Rattle.std.specs.Prelude.{ℕ, ◌≡◌, List, [], ◌∷◌, Option, Some, None, Vec, nat_eq}
use Rattle.std.specs.List.{flat_map, slice_get}
use Rattle.std.specs.Option.{option_map_or}
use Rattle.std.specs.declared.alloc.Global.{Global}
use Rattle.indexmap.specs.IndexMap.{get}
use Rattle.lotos_ast.specs.declared.token.Token.{Token}
use Rattle.static_processes.specs.Processes.{Entry, standing_in}
use Rattle.static_processes.specs.declared.where_parts.WhereParts.{WhereParts}

-- the numbers of those that stand in the part of the process of this number
abbrev pub inner_at : WhereParts → ℕ → List ℕ
inner_at parts p = option_map_or (λ (numbers : Vec ℕ Global). numbers.items) (get nat_eq parts.inner p) []

-- where there is none, in that of the specification
abbrev pub numbers_at : WhereParts → Option ℕ → List ℕ
numbers_at parts None = parts.outer.items
numbers_at parts (Some p) = inner_at parts p

-- the parts are those of these processes
abbrev pub ArePartsOf : WhereParts → List Entry → Type 0
ArePartsOf parts table = (within : Option ℕ) → numbers_at parts within ≡ standing_in table within

-- the names of the processes of these numbers

abbrev pub name_of : Option Entry → List Token
name_of None = []
name_of (Some e) = e.process.name ∷ []

abbrev pub names_at : List Entry → List ℕ → List Token
names_at table numbers = flat_map (λ n. name_of (slice_get table n)) numbers
