-- What is refused of a list of types.
use Rattle.std.specs.Prelude.{List, [], ◌++◌}
use Rattle.std.specs.List.{flat_map, zip}
use Rattle.lotos_ast.specs.declared.place.Place.{Place}
use Rattle.lotos_ast.specs.declared.token.Token.{Token}
use Rattle.lotos_ast.specs.declared.refusal.Refusal.{Refusal}
use Rattle.lotos_ast.specs.declared.types.TypeDef.{TypeDef}
use Rattle.lotos_ast.specs.declared.types.TypeDef.TheVariants.{Library, Definition}
use Rattle.lotos_ast.specs.declared.types.Pairs.{Pairs}
use Rattle.lotos_ast.specs.declared.types.TypeBody.{TypeBody}
use Rattle.lotos_ast.specs.declared.types.TypeBody.TheVariants.{Declared, Renamed, Actualized}
use Rattle.type_contents.specs.Items.{Described}
use Rattle.type_contents.specs.Images.{renaming_of}
use Rattle.type_contents.specs.Contents.{Content, contents, items_of, formals_of}
use Rattle.type_contents.specs.Numbering.{all_sorts, all_operations}
use Rattle.type_names.specs.UnknownTypes.{unknown_types}
use Rattle.type_names.specs.TypeCycles.{cycle_refusals}
use Rattle.type_names.specs.DuplicateNames.{duplicate_names}
use Rattle.type_copies.specs.UnknownSorts.{unknown_sorts}
use Rattle.type_copies.specs.Copies.{copy}
use Rattle.type_copies.specs.BadRenamings.{bad_pairs}
use Rattle.type_copies.specs.BadActuals.{bad_actuals}

-- what is refused of copies, where each type has what the table says, and these are all items in their order

-- of a copy of the type of this name under the new names of pairs
abbrev pub bad_renaming : List TypeDef → List Content → Token → Pairs → List Refusal
bad_renaming types table source pairs = bad_pairs (copy (items_of types table source) [] (renaming_of pairs)) pairs

-- and where its formal items are replaced by items of actual types; this is the place of the copy
abbrev pub bad_actualization : List TypeDef → List Content → List Described → Place → Token → List Token → Pairs → List Refusal
bad_actualization types table all place source actuals pairs =
    bad_pairs (copy (items_of types table source) (formals_of types table source) (renaming_of pairs)) pairs
    ++ bad_actuals place pairs (formals_of types table source) (flat_map (items_of types table) actuals) all

abbrev pub bad_copy_by : List TypeDef → List Content → List Described → Place → TypeBody → List Refusal
bad_copy_by types table all place (Declared p imports formals sorts operations equations) = []
bad_copy_by types table all place (Renamed p source pairs) = bad_renaming types table source pairs
bad_copy_by types table all place (Actualized p source actuals pairs) = bad_actualization types table all place source actuals.items pairs

abbrev pub bad_copy : List TypeDef → List Content → List Described → TypeDef → List Refusal
bad_copy types table all (Library place names) = []
bad_copy types table all (Definition place name body) = bad_copy_by types table all name.place body

-- a sort that a type's declarations name, and that isn't in its content
abbrev pub sort_refusals : List TypeDef → List Content → List Refusal
sort_refusals types table = flat_map (λ e. unknown_sorts e.1.items e.0) (zip types table)

-- of each condition in the order of its number
abbrev pub refusals_by : List TypeDef → List Content → List Described → List Refusal
refusals_by types table all =
    unknown_types types ++ cycle_refusals types ++ sort_refusals types table ++ duplicate_names types
    ++ flat_map (bad_copy types table all) types

abbrev pub refusals_of : List TypeDef → List Refusal
refusals_of types = refusals_by types (contents types) (all_sorts types ++ all_operations types)
