-- Processes that call themselves at once, directly or through others (this profile). Processes go by their numbers, from 0; of each
-- there are given the calls that it makes at once, in the order of the text.
use Rattle.std.specs.Prelude.{ℕ, ◌+◌, List, [], ◌∷◌, ◌++◌, map, length, Option, Some, None}
use Rattle.std.specs.List.{slice_index_or, slice_get, range_with_len, flat_map}
use Rattle.lotos_ast.specs.declared.place.Place.{Place}
use Rattle.lotos_ast.specs.declared.refusal.Refusal.{Refusal}
use Rattle.lotos_ast.specs.declared.refusal.RefusalKind.TheVariants.{Unguarded}
use Rattle.type_cycles.specs.Cycles.{first_some, ways_to}
use Rattle.sort_overloads.specs.Refused.{refused}
use Rattle.static_call_cycles.specs.declared.call.Call.{Call}

-- the processes that these calls call
abbrev pub called : List Call → List ℕ
called calls = map (λ c. c.process) calls

abbrev pub links : List (List Call) → List (List ℕ)
links all = map called all

-- the first of the shortest ways from one process to another: the processes on it without the last
abbrev pub way : List (List ℕ) → ℕ → ℕ → Option (List ℕ)
way links from to = first_some (λ n. slice_index_or (ways_to links to n) from None) (range_with_len 0 (length links))

-- the names of the processes of these numbers

abbrev pub name_of : Option (List ℕ) → List (List ℕ)
name_of None = []
name_of (Some name) = name ∷ []

abbrev pub names_of : List (List ℕ) → List ℕ → List (List ℕ)
names_of names numbers = flat_map (λ n. name_of (slice_get names n)) numbers

-- a call from which a way leads back is refused, with the caller's name and those of the processes on a shortest cycle through the call
abbrev pub refused_if : List (List ℕ) → ℕ → Place → Option (List ℕ) → List Refusal
refused_if names caller place None = []
refused_if names caller place (Some numbers) = refused Unguarded place (names_of names (caller ∷ numbers)) ∷ []

abbrev pub call_refusals : List (List ℕ) → List (List ℕ) → ℕ → Call → List Refusal
call_refusals names links caller c = refused_if names caller c.place (way links c.process caller)

-- those of all processes, where the first has this number
abbrev pub refusals_from : List (List ℕ) → List (List ℕ) → ℕ → List (List Call) → List Refusal
refusals_from names links number [] = []
refusals_from names links number (calls ∷ all) =
    flat_map (call_refusals names links number) calls ++ refusals_from names links (number + 1) all

-- every call on a cycle of calls that are made at once is refused
abbrev pub unguarded_refusals : List (List ℕ) → List (List Call) → List Refusal
unguarded_refusals names all = refusals_from names (links all) 0 all
