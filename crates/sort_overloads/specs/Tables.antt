-- Tables of readings. A table keeps the first two readings of each sort, and beside them the tables of the arguments: a reading says of
-- each argument which reading of its table is meant. So no term is copied while the readings of an expression are found.
use Rattle.std.specs.Prelude.{ℕ, List, [], ◌∷◌, ◌++◌, map, slice_index_or, Option, None, Some, option_map, Vec}
use Rattle.std.specs.declared.alloc.Global.{Global}
use Rattle.spec_core.specs.Terms.{TermTree, variable, apply, terms}
use Rattle.spec_core.specs.declared.items.Sort.{Sort}
use Rattle.sort_overloads.specs.declared.table.Pick.{Pick}
use Rattle.sort_overloads.specs.declared.table.Reading.{Reading}
use Rattle.sort_overloads.specs.declared.table.Root.{Root}
use Rattle.sort_overloads.specs.declared.table.Root.TheVariants.{Variable, Operation}
use Rattle.sort_overloads.specs.declared.table.Table.{Table}
use Rattle.sort_overloads.specs.declared.table.Table.TheFolds.{fold-Table}
use Rattle.sort_overloads.specs.declared.table.Table.TheOpen.{Table-F}
use Rattle.std.specs.Prelude.{Bool, true, ◌==◌, ◌≡◌}
use Rattle.std.specs.List.{slice_get}
use Rattle.sort_overloads.specs.declared.selection.Wanted.{Wanted}
use Rattle.sort_overloads.specs.declared.selection.Wanted.TheVariants.{Any, Just, Named}
use Rattle.sort_overloads.specs.Listed.{Typed, is_name_of}

-- what stands where no reading does; no pick names such a place
abbrev pub no_reading_there : Typed
no_reading_there = record { term = variable 0; sort = 0 }

-- the term that a pick names among the readings of the arguments
abbrev pub picked : List (List Typed) → Pick → TermTree
picked arguments pick = (slice_index_or (slice_index_or arguments pick.argument []) pick.reading no_reading_there).term

-- the terms that a list of picks names
abbrev pub list_of : List (List Typed) → Vec Pick Global → List TermTree
list_of arguments picks = map (picked arguments) picks.items

abbrev pub root_term : List (List Typed) → Root → TermTree
root_term arguments (Variable x) = variable x
root_term arguments (Operation op picks) = apply op.0 (terms (list_of arguments picks))

-- a reading over the readings of the arguments
abbrev pub reading_of : List (List Typed) → Reading → Typed
reading_of arguments r = record { term = root_term arguments r.root; sort = r.sort.0 }

-- the readings of a table, and those of the tables of the arguments
pub record Kept : Type 0 where
  pub readings : List Typed
  pub arguments : List (List Typed)

abbrev pub kept_over : List (List Typed) → List Reading → Kept
kept_over arguments readings = record { readings = map (reading_of arguments) readings; arguments = arguments }

abbrev pub table_step : Table-F Kept → Kept
table_step t = kept_over (map (λ k. k.readings) t.parts.items) t.readings.items

abbrev pub kept_of : Table → Kept
kept_of = fold-Table Kept table_step

-- the readings of a table
abbrev pub table_of : Table → List Typed
table_of t = (kept_of t).readings

-- those of the tables of the arguments
abbrev pub arguments_of : Table → List (List Typed)
arguments_of t = (kept_of t).arguments

-- the list with this term behind it
abbrev pub with_last : List TermTree → TermTree → List TermTree
with_last l t = l ++ (t ∷ [])

-- the reading that a variable's number and sort make
abbrev pub typed_variable : ℕ × Sort → Typed
typed_variable x = record { term = variable x.0; sort = x.1.0 }

abbrev pub found_of : Option (ℕ × Sort) → Option Typed
found_of = option_map typed_variable

-- the sort of this number is wanted
abbrev pub fits : Wanted → ℕ → Bool
fits Any sort = true
fits (Just only) sort = only.0 == sort
fits (Named sorts name) sort = is_name_of name.now (slice_get sorts.now sort)

-- this sort is wanted, or any where there is none
abbrev pub IsWantedAs : Option Sort → Wanted → Type 0
IsWantedAs None wanted = wanted ≡ Any
IsWantedAs (Some sort) wanted = wanted ≡ Just sort
