-- The order in which sorts and operations are numbered: that of the list of types, in each type the order of declaration, and for a
-- copy's new items the order of what they copy.
use Rattle.std.specs.Prelude.{ℕ, Bool, ◌&&◌, not, nat_eq, List, [], ◌∷◌, length, if◌then◌else◌}
use Rattle.std.specs.List.{list_any, filter, flat_map, slice_index_or, range_with_len, zip, position_or_len}
use Rattle.lotos_ast.specs.declared.token.Token.{Token}
use Rattle.lotos_ast.specs.declared.types.TypeDef.{TypeDef}
use Rattle.lotos_ast.specs.declared.types.TypeDef.TheVariants.{Library, Definition}
use Rattle.lotos_ast.specs.declared.types.TypeBody.{TypeBody}
use Rattle.lotos_ast.specs.declared.types.TypeBody.TheVariants.{Declared, Renamed, Actualized}
use Rattle.type_contents.specs.Lists.{each_once}
use Rattle.type_contents.specs.Items.{Item, Described, is_same_item, is_in, is_sort, firsts}
use Rattle.type_contents.specs.Own.{own_items}
use Rattle.type_contents.specs.Images.{Renaming, renaming_of, described_image, kept_renaming}
use Rattle.type_contents.specs.Uses.{number_of, links}
use Rattle.type_contents.specs.Rounds as rounds
use Rattle.type_contents.specs.Contents.{contents, items_of, formals_of}
use Rattle.type_contents.specs.FormalTypes.{formal_types}

-- the numbers of the types of which a type is made, of those of which these are made, and so on, each once
abbrev pub parts_from : List TypeDef → List (List ℕ) → TypeDef → List ℕ
parts_from types table d = each_once nat_eq (flat_map (λ k. k ∷ slice_index_or table k []) (links types d))

abbrev pub parts : List TypeDef → List (List ℕ)
parts types = rounds.table [] (parts_from types) types

-- what one of the types brings into a content: if it is one of these, what it brings in, as far as the content has it
abbrev pub brought_by : List (List Described) → List ℕ → List Item → ℕ → List Described
brought_by brought among content k = if list_any (nat_eq k) among then filter (λ d. is_in content d.item) (slice_index_or brought k [])
    else []

-- a content in order, where each type brings in what the table says: the order of the list of types, and for each type that in which
-- it brings in its own
abbrev pub in_order : ℕ → List (List Described) → List ℕ → List Item → List Described
in_order count brought among content = firsts (flat_map (brought_by brought among content) (range_with_len 0 count))

-- the numbers of a type and of all of which it is made
abbrev pub itself_and_parts : List TypeDef → Token → List ℕ
itself_and_parts types name = number_of types name ∷ slice_index_or (parts types) (number_of types name) []

-- the content of the type of this name in order
abbrev pub source_in_order : List TypeDef → List (List Described) → Token → List Described
source_in_order types brought source = in_order (length types) brought (itself_and_parts types source)
    (items_of types (contents types) source)

-- the image of an item, where it is another item
abbrev pub new_image : (Described → Described) → Described → List Described
new_image copy d = if is_same_item (copy d).item d.item then [] else copy d ∷ []

-- the image of an item where formal items are replaced, if it isn't formal and the image is another item
abbrev pub new_kept : List Item → Renaming → Described → List Described
new_kept formals renaming d = if is_in formals d.item then [] else new_image (described_image (kept_renaming formals renaming d.item)) d

-- what a type brings in: what it declares, or the new items of a copy
abbrev pub brings_by : List TypeDef → List (List Described) → TypeBody → List Described
brings_by types brought (Declared place imports formals sorts operations equations) = own_items formals sorts operations
brings_by types brought (Renamed place source pairs) = flat_map (new_image (described_image (renaming_of pairs)))
    (source_in_order types brought source)
brings_by types brought (Actualized place source actuals pairs) = flat_map
    (new_kept (formals_of types (contents types) source) (renaming_of pairs)) (source_in_order types brought source)

abbrev pub brings : List TypeDef → List (List Described) → TypeDef → List Described
brings types brought (Library place names) = []
brings types brought (Definition place name body) = brings_by types brought body

-- the numbers of the types on which it depends what a type brings in

abbrev pub needs_by : List TypeDef → TypeBody → List ℕ
needs_by types (Declared place imports formals sorts operations equations) = []
needs_by types (Renamed place source pairs) = itself_and_parts types source
needs_by types (Actualized place source actuals pairs) = itself_and_parts types source

abbrev pub needs : List TypeDef → TypeDef → List ℕ
needs types (Library place names) = []
needs types (Definition place name body) = needs_by types body

-- of each type what it brings in
abbrev pub brought : List TypeDef → List (List Described)
brought types = rounds.table [] (brings types) types

-- all sorts and operations in the order of their numbers; mark, place and spelling are those of the first that brings one in
abbrev pub all_items : List TypeDef → List Described
all_items types = firsts (flat_map (λ all. all) (brought types))

abbrev pub all_sorts : List TypeDef → List Described
all_sorts types = filter (λ d. is_sort d.item) (all_items types)

abbrev pub all_operations : List TypeDef → List Described
all_operations types = filter (λ d. not (is_sort d.item)) (all_items types)

-- the number of an item among these; how many these are where it isn't there
abbrev pub number_among : List Described → Item → ℕ
number_among all x = position_or_len (λ d. is_same_item x d.item) all

-- whether an item is part of the data: a type that isn't formal has it
abbrev pub is_data : List TypeDef → Item → Bool
is_data types x = list_any (λ e. not e.0 && is_in e.1.items x) (zip (formal_types types) (contents types))
