-- The data that a list of types comes to (ISO 8807, ACT ONE): the sorts, operations and equations that a type has which isn't formal,
-- each with a number among its kin.
use Rattle.std.specs.Prelude.{ℕ, ◌-◌, Bool, List, [], ◌∷◌, ◌++◌, map, length, take, if◌then◌else◌}
use Rattle.std.specs.List.{flat_map, filter, slice_index_or, zip}
use Rattle.lotos_ast.specs.declared.types.TypeDef.{TypeDef}
use Rattle.spec_core.specs.Theories.{Operation, ConditionalEquation, Theory}
use Rattle.type_contents.specs.declared.item_kind.ItemKind.{ItemKind}
use Rattle.type_contents.specs.Items.{Described, is_same_kind}
use Rattle.type_contents.specs.Own.{sort_item}
use Rattle.type_contents.specs.FormalTypes.{formal_types}
use Rattle.type_contents.specs.Numbering.{all_sorts, all_operations, number_among, is_data}
use Rattle.type_images.specs.Same.{is_in, firsts}
use Rattle.type_images.specs.Images.{NewNumbers, equation_image}
use Rattle.type_equation_copies.specs.Copies.{image_numbers}
use Rattle.type_equation_copies.specs.Contents.{Equations, equations}

abbrev pub data_sorts : List TypeDef → List Described
data_sorts types = filter (λ d. is_data types d.item) (all_sorts types)

abbrev pub data_operations : List TypeDef → List Described
data_operations types = filter (λ d. is_data types d.item) (all_operations types)

-- what belongs to the types that aren't formal
abbrev pub of_data : {A B : Type 0} → (A → List B) → List Bool → List A → List B
of_data f formal all = flat_map (λ e. if e.0 then [] else f e.1) (zip formal all)

-- all equations: those that the types bring in, in the order of the list of types, each once
abbrev pub all_equations : List Equations → List ConditionalEquation
all_equations found = firsts (flat_map (λ e. e.brought) found)

-- those that some type has which isn't formal
abbrev pub equations_in : List Bool → List Equations → List ConditionalEquation
equations_in formal found = filter (is_in (of_data (λ e. e.all) formal found)) (all_equations found)

abbrev pub data_equations : List TypeDef → List (List ConditionalEquation) → List ConditionalEquation
data_equations types own = equations_in (formal_types types) (equations types own)

-- the numbers among the data of all sorts and operations
abbrev pub data_numbers : List TypeDef → NewNumbers
data_numbers types = record {
  sorts = image_numbers (data_sorts types) (λ x. x) (all_sorts types);
  operations = image_numbers (data_operations types) (λ x. x) (all_operations types);
}

-- an operation's name, in which low lines stand for the arguments where it stands between them
abbrev pub operation_name : Described → List ℕ
operation_name d = if is_same_kind d.item.kind ItemKind.Infix then 95 ∷ d.spelled ++ 95 ∷ [] else d.spelled

-- the numbers of the sorts of these names among sorts
abbrev pub sort_numbers : List Described → List (List ℕ) → List ℕ
sort_numbers sorts names = map (λ name. number_among sorts (sort_item name)) names

abbrev pub all_but_last : List ℕ → List ℕ
all_but_last all = take (length all - 1) all

abbrev pub last_number : List ℕ → ℕ
last_number all = slice_index_or all (length all - 1) 0

-- an operation over these sorts: the last sort that it names is that of its result
abbrev pub operation : List Described → Described → Operation
operation sorts d = record {
  name = operation_name d;
  args = all_but_last (sort_numbers sorts d.item.sorts);
  result = last_number (sort_numbers sorts d.item.sorts);
  marked = d.marked;
  line = d.place.line;
  column = d.place.column;
}

-- the data of types that have these own equations
abbrev pub data_of : List TypeDef → List (List ConditionalEquation) → Theory
data_of types own = record {
  sorts = map (λ d. d.spelled) (data_sorts types);
  operations = map (operation (data_sorts types)) (data_operations types);
  equations = map (equation_image (data_numbers types)) (data_equations types own);
}
