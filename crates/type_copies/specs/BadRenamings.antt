-- Pairs of a new name and an old one that can't be.
use Rattle.std.specs.Prelude.{ℕ, Bool, ◌&&◌, ◌||◌, not, ◌==◌, List, [], ◌∷◌, ◌++◌, map, length, if◌then◌else◌}
use Rattle.std.specs.List.{list_any}
use Rattle.std.specs.Str.{bytes_eq}
use Rattle.lotos_ast.specs.declared.place.Place.{Place}
use Rattle.lotos_ast.specs.declared.refusal.Refusal.{Refusal}
use Rattle.lotos_ast.specs.declared.refusal.RefusalKind.{RefusalKind}
use Rattle.lotos_ast.specs.declared.types.Pairs.{Pairs}
use Rattle.lotos_ast.specs.declared.types.SortPair.{SortPair}
use Rattle.lotos_ast.specs.declared.types.OperationPair.{OperationPair}
use Rattle.type_contents.specs.declared.item_kind.ItemKind.{ItemKind}
use Rattle.type_contents.specs.Lists.{listed}
use Rattle.type_contents.specs.Items.{is_same_item, is_same_kind, is_in}
use Rattle.type_contents.specs.Own.{sort_item}
use Rattle.type_contents.specs.Images.{NewSort, NewOperation, new_sort, new_operation, renames}
use Rattle.type_names.specs.Refused.{refused, each_after}
use Rattle.type_copies.specs.Copies.{Change, Copy, gets, gets_any}

-- Sorts

-- the sort is copied
abbrev pub has_sort : Copy → List ℕ → Bool
has_sort copy name = list_any (λ c. is_same_item (sort_item name) c.item) copy.changes

abbrev pub has_old_sort : List ℕ → NewSort → Bool
has_old_sort name m = bytes_eq m.old name

-- the old sort gets the new name: it isn't replaced
abbrev pub renames_sort : Copy → NewSort → Bool
renames_sort copy n = not (is_in copy.replaced (sort_item n.old))

-- a sort gets the same new name by another pair
abbrev pub gives_same : Copy → NewSort → NewSort → Bool
gives_same copy n m = bytes_eq m.new n.new && renames_sort copy m

-- the new sort is copied, and no pair is for it
abbrev pub is_kept_sort : Copy → NewSort → Bool
is_kept_sort copy n = has_sort copy n.new && not (list_any (has_old_sort n.new) copy.renaming.sorts)

-- a pair is bad with these before it: its old sort isn't copied, or has a pair before; or it gives its old sort a new name that another
-- sort gets before, or that a sort without a pair has
abbrev pub is_bad_sort : Copy → List NewSort → NewSort → Bool
is_bad_sort copy before n =
    not (has_sort copy n.old) || list_any (has_old_sort n.old) before
    || (renames_sort copy n && (list_any (gives_same copy n) before || is_kept_sort copy n))

-- Operations

abbrev pub has_old_operation : NewOperation → NewOperation → Bool
has_old_operation n m = is_same_kind m.old_kind n.old_kind && bytes_eq m.old n.old

-- a name that stands between arguments is for an operation with another number of arguments than two
abbrev pub is_misplaced : Copy → NewOperation → Change → Bool
is_misplaced copy n c = is_same_kind n.new_kind ItemKind.Infix && not (length c.item.sorts == 3) && gets copy n c.item

-- an item gets a name by this pair or one before it, or gets other sorts and has no pair
abbrev pub changes_before : Copy → List NewOperation → NewOperation → Change → Bool
changes_before copy before n c =
    gets copy n c.item || gets_any copy before c.item
    || (not (gets_any copy copy.renaming.operations c.item) && not (is_same_item c.image c.item))

-- another item that isn't replaced, and changes, becomes the same item
abbrev pub is_clash : Copy → List NewOperation → NewOperation → Change → Change → Bool
is_clash copy before n c d =
    is_same_item c.image d.image && not (is_same_item c.item d.item) && not (is_in copy.replaced d.item) && changes_before copy before n d

-- an operation that gets the new name becomes the same as another item
abbrev pub has_clash : Copy → List NewOperation → NewOperation → Change → Bool
has_clash copy before n c = gets copy n c.item && list_any (is_clash copy before n c) copy.changes

-- a pair is bad with these before it: no operation of its old name is copied, or the old name has a pair before; or its new name can't
-- stand with an operation that gets it, or makes two items one
abbrev pub is_bad_operation : Copy → List NewOperation → NewOperation → Bool
is_bad_operation copy before n =
    not (list_any (λ c. renames c.item n) copy.changes) || list_any (has_old_operation n) before
    || list_any (is_misplaced copy n) copy.changes || list_any (has_clash copy before n) copy.changes

-- a bad pair is refused

abbrev pub bad_pair : Bool → Place → List Refusal
bad_pair is_bad place = if is_bad then refused RefusalKind.BadRenaming place ∷ [] else []

abbrev pub bad_sort_pair : Copy → List SortPair → SortPair → List Refusal
bad_sort_pair copy before p = bad_pair (is_bad_sort copy (map new_sort before) (new_sort p)) p.place

abbrev pub bad_operation_pair : Copy → List OperationPair → OperationPair → List Refusal
bad_operation_pair copy before p = bad_pair (is_bad_operation copy (map new_operation before) (new_operation p)) p.place

-- of the pairs that make the renaming of the copy
abbrev pub bad_pairs : Copy → Pairs → List Refusal
bad_pairs copy pairs = each_after (bad_sort_pair copy) [] (listed pairs.sorts) ++ each_after (bad_operation_pair copy) []
    (listed pairs.operations)
