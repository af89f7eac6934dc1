-- The variables that `forall` declares (ISO 8807, ACT ONE). Lists that stand one after another are joined, and a later variable hides an
-- earlier one of its name (this profile).
use Rattle.std.specs.Prelude.{ℕ, List, ◌++◌, map}
use Rattle.std.specs.List.{flat_map, position_or_len}
use Rattle.lotos_ast.specs.declared.declaration.Declaration.{Declaration}
use Rattle.lotos_ast.specs.declared.refusal.Refusal.{Refusal}
use Rattle.lotos_ast.specs.declared.types.ForAll.{ForAll}
use Rattle.sort_overloads.specs.Listed.{is_same_name}
use Rattle.sort_overloads.specs.Readings.{Context, Declared}
use Rattle.sort_overloads.specs.Refused.{unknown_sort}

-- the number of the first sort of this name; how many sorts there are where none has it
abbrev pub sort_named : List (List ℕ) → List ℕ → ℕ
sort_named sorts name = position_or_len (λ other. is_same_name other name) sorts

-- the declarations of these lists
abbrev pub declarations : List ForAll → List Declaration
declarations lists = flat_map (λ list. list.declarations.list.items) lists

-- the variables of a declaration
abbrev pub variables_of : List (List ℕ) → Declaration → List Declared
variables_of sorts d = map (λ name. record { name = name.text; sort = sort_named sorts d.sort.text }) d.names.items

abbrev pub all_variables : List (List ℕ) → List Declaration → List Declared
all_variables sorts all = flat_map (variables_of sorts) all

-- the sorts of declarations that aren't known
abbrev pub unknown_sorts : Context → List Declaration → List Refusal
unknown_sorts c all = flat_map (λ d. unknown_sort c d.sort) all

-- with the variables that these lists declare
abbrev pub under : Context → List ForAll → Context
under c lists = record {
  sorts = c.sorts;
  operations = c.operations;
  variables = c.variables ++ all_variables c.sorts (declarations lists);
}
