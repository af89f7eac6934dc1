-- The signature in which the equations of a type are read: the sorts and operations of its content, in the order of their numbers among
-- those of all types. The names are as they are written, and an operation between its arguments has low lines round its name.
use Rattle.std.specs.Prelude.{ℕ, ◌-◌, Bool, List, [], map, length, take, if◌then◌else◌}
use Rattle.std.specs.List.{filter, filter_map, position_or_len, slice_get, slice_index_or}
use Rattle.std.specs.Str.{bytes_eq}
use Rattle.spec_core.specs.Theories.{Operation}
use Rattle.sort_overloads.specs.Expressions.{between}
use Rattle.sort_overloads.specs.Readings.{Context, spelling}
use Rattle.type_contents.specs.declared.item_kind.ItemKind.{ItemKind}
use Rattle.type_contents.specs.Items.{Item, Described, is_in, is_same_kind}
use Rattle.type_contents.specs.Lists.{numbers_of}

-- whether these items have what is described
abbrev pub is_had : List Item → Described → Bool
is_had items d = is_in items d.item

-- what these items have of all
abbrev pub had_of : List Item → List Described → List Described
had_of items all = filter (is_had items) all

-- its numbers among all, ascending
abbrev pub numbers_had : List Item → List Described → List ℕ
numbers_had items all = numbers_of (is_had items) all

-- the number of the sort of this name in small letters; how many sorts there are where none has it
abbrev pub sort_number : List Described → List ℕ → ℕ
sort_number sorts name = position_or_len (λ d. bytes_eq d.item.name name) sorts

abbrev pub written_name : Described → List ℕ
written_name d = if is_same_kind d.item.kind ItemKind.Infix then spelling between d.spelled else d.spelled

-- of the sorts of an operation those of its arguments: all but the last
abbrev pub arguments_of : List ℕ → List ℕ
arguments_of sorts = take (length sorts - 1) sorts

-- that of its result: the last
abbrev pub result_of : List ℕ → ℕ
result_of sorts = slice_index_or sorts (length sorts - 1) 0

-- an operation with the numbers of its sorts
abbrev pub operation_with : Described → List ℕ → Operation
operation_with d sorts = record {
  name = written_name d;
  args = arguments_of sorts;
  result = result_of sorts;
  marked = d.marked;
  line = d.place.line;
  column = d.place.column;
}

-- an operation over sorts
abbrev pub operation_over : List Described → Described → Operation
operation_over sorts d = operation_with d (map (sort_number sorts) d.item.sorts)

-- sorts and operations as equations may speak of them
abbrev pub context_over : List Described → List Described → Context
context_over sorts operations = record {
  sorts = map (λ d. d.spelled) sorts;
  operations = map (operation_over sorts) operations;
  variables = [];
}

-- what a type's equations may speak of, where it has these items, of these sorts and operations of all types
abbrev pub type_context : List Described → List Described → List Item → Context
type_context sorts operations items = record {
  sorts = map (λ d. d.spelled) (had_of items sorts);
  operations = map (operation_over (had_of items sorts)) (had_of items operations);
  variables = [];
}

-- what stands at these numbers
abbrev pub stands_at : List Described → List ℕ → List Described
stands_at all numbers = filter_map (λ n. slice_get all n) numbers

-- the same, where the type has what stands at these numbers
abbrev pub context_at : List Described → List Described → List ℕ → List ℕ → Context
context_at sorts operations had_sorts had_operations = context_over (stands_at sorts had_sorts) (stands_at operations had_operations)
