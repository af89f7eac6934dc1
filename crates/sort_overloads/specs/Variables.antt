-- The variables of a name.
use Rattle.std.specs.Prelude.{ℕ, suc, ◌≡◌, List, [], ◌∷◌, ◌++◌, map, Vec, if◌then◌else◌}
use Rattle.std.specs.Char.{to_ascii_lowercase}
use Rattle.std.specs.Option.{option_map_or}
use Rattle.std.specs.Str.{bytes_eq}
use Rattle.std.specs.declared.alloc.Global.{Global}
use Rattle.indexmap.specs.IndexMap.{get_by_text}
use Rattle.spec_core.specs.Terms.{variable}
use Rattle.spec_core.specs.declared.items.Sort.{Sort}
use Rattle.sort_overloads.specs.Listed.{Typed}
use Rattle.sort_overloads.specs.Readings.{Declared}
use Rattle.sort_overloads.specs.Tables.{typed_variable}
use Rattle.sort_overloads.specs.declared.named_variables.NamedVariables.{NamedVariables}
use Rattle.sort_overloads.specs.declared.variables.Variable.{Variable}

abbrev pub declared_of : Variable → Declared
declared_of v = record { name = v.name; sort = v.sort.0 }

-- the variables of a name that is given in small letters, in order, where the first of all has this number
abbrev pub variables_named : List ℕ → ℕ → List Declared → List Typed
variables_named name x [] = []
variables_named name x (v ∷ vs) =
    (if bytes_eq (map to_ascii_lowercase v.name) name then record { term = variable x; sort = v.sort } ∷ [] else []) ++ variables_named name (suc x) vs

-- those that are kept under a name
abbrev pub variables_at : NamedVariables → List ℕ → List Typed
variables_at named name = option_map_or (λ (all : Vec (ℕ × Sort) Global). map typed_variable all.items) (get_by_text named.by_name name) []

-- under each name those are kept that have it
abbrev pub AreByName : NamedVariables → List Declared → Type 0
AreByName named vs = (name : List ℕ) → variables_at named name ≡ variables_named name 0 vs
