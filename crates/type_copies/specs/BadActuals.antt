-- Formal items that no item of the actual types replaces.
use Rattle.std.specs.Prelude.{◌||◌, not, ℕ, List, [], ◌∷◌, ◌++◌, option_map, unwrap_or, if◌then◌else◌, codes}
use Rattle.std.specs.List.{find, flat_map}
use Rattle.std.specs.Str.{bytes_eq}
use Rattle.lotos_ast.specs.declared.place.Place.{Place}
use Rattle.lotos_ast.specs.declared.refusal.Refusal.{Refusal}
use Rattle.lotos_ast.specs.declared.refusal.RefusalKind.{RefusalKind}
use Rattle.lotos_ast.specs.declared.types.Pairs.{Pairs}
use Rattle.type_contents.specs.declared.item_kind.ItemKind.{ItemKind}
use Rattle.type_contents.specs.Lists.{listed}
use Rattle.type_contents.specs.Items.{Item, Described, small, is_same_kind, is_sort, is_in}
use Rattle.type_contents.specs.Images.{new_operation, renaming_of, renames, image}

-- the place of the first pair for the item, or else this one
abbrev pub pair_place : Place → Pairs → Item → Place
pair_place place pairs x =
    if is_sort x then unwrap_or (option_map (λ p. p.place) (find (λ p. bytes_eq (small p.old) x.name) (listed pairs.sorts))) place
    else unwrap_or (option_map (λ p. p.place) (find (λ p. renames x (new_operation p)) (listed pairs.operations))) place

-- the name as it is declared, with low lines where it stands between arguments
abbrev pub written : Described → List ℕ
written d = if is_same_kind d.item.kind ItemKind.Infix then codes "_" ++ d.spelled ++ codes "_" else d.spelled

-- an item that is formal, and whose image isn't an item of the actual types, is refused, at its pair or else at this place
abbrev pub bad_actual : Place → Pairs → List Item → List Item → Described → List Refusal
bad_actual place pairs formals actual d =
    if not (is_in formals d.item) || is_in actual (image (renaming_of pairs) d.item) then []
    else record { kind = RefusalKind.BadActual; place = pair_place place pairs d.item; names = written d ∷ [] } ∷ []

-- in the order of these items
abbrev pub bad_actuals : Place → Pairs → List Item → List Item → List Described → List Refusal
bad_actuals place pairs formals actual all = flat_map (bad_actual place pairs formals actual) all
