-- Images of items under new names. What has no new name keeps its own, and so stays the same item.
use Rattle.std.specs.Prelude.{ℕ, Bool, ◌&&◌, List, [], map, Option, Some, None, option_map, unwrap_or, if◌then◌else◌}
use Rattle.std.specs.List.{list_any, find}
use Rattle.std.specs.Str.{bytes_eq}
use Rattle.lotos_ast.specs.declared.types.Pairs.{Pairs}
use Rattle.lotos_ast.specs.declared.types.SortPair.{SortPair}
use Rattle.lotos_ast.specs.declared.types.OperationPair.{OperationPair}
use Rattle.type_contents.specs.declared.item_kind.ItemKind.{ItemKind}
use Rattle.type_contents.specs.Lists.{listed}
use Rattle.type_contents.specs.Items.{Item, Described, small, is_same_kind, is_sort, has_same_name}
use Rattle.type_contents.specs.Own.{name_of, kind_of}

-- a new name for a sort
pub record NewSort : Type 0 where
  pub old : List ℕ
  pub new : List ℕ
  -- the new name as it is written
  pub spelled : List ℕ

-- a new name for operations
pub record NewOperation : Type 0 where
  pub old_kind : ItemKind
  pub old : List ℕ
  pub new_kind : ItemKind
  pub new : List ℕ
  pub spelled : List ℕ

pub record Renaming : Type 0 where
  pub sorts : List NewSort
  pub operations : List NewOperation

-- what pairs of names say

abbrev pub new_sort : SortPair → NewSort
new_sort p = record { old = small p.old; new = small p.new; spelled = p.new.text }

abbrev pub new_operation : OperationPair → NewOperation
new_operation p = record {
  old_kind = kind_of p.old;
  old = small (name_of p.old);
  new_kind = kind_of p.new;
  new = small (name_of p.new);
  spelled = (name_of p.new).text;
}

abbrev pub renaming_of : Pairs → Renaming
renaming_of pairs = record { sorts = map new_sort (listed pairs.sorts); operations = map new_operation (listed pairs.operations) }

-- the first of the new names of a sort
abbrev pub for_sort : List NewSort → List ℕ → Option NewSort
for_sort news name = find (λ n. bytes_eq n.old name) news

-- the image of a sort's name
abbrev pub sort_image : List NewSort → List ℕ → List ℕ
sort_image news name = unwrap_or (option_map (λ n. n.new) (for_sort news name)) name

-- sorts have their new names, in an operation too; its own name stays
abbrev pub sorts_renamed : List NewSort → Item → Item
sorts_renamed news x = record {
  kind = x.kind;
  name = if is_sort x then sort_image news x.name else x.name;
  sorts =
      map (sort_image news) x.sorts;
}

-- whether the new name is for operations of this kind and name
abbrev pub renames : Item → NewOperation → Bool
renames x n = is_same_kind n.old_kind x.kind && bytes_eq n.old x.name

-- the first of the new names of an operation
abbrev pub for_operation : List NewOperation → Item → Option NewOperation
for_operation news x = find (renames x) news

-- the operation with its new name, if it has one
abbrev pub named_by : Option NewOperation → Item → Item
named_by None x = x
named_by (Some n) x = record { kind = n.new_kind; name = n.new; sorts = x.sorts }

-- the image of an item
abbrev pub image : Renaming → Item → Item
image renaming x = named_by (for_operation renaming.operations x) (sorts_renamed renaming.sorts x)

-- whether a formal item has the kind and the name of this one
abbrev pub has_formal_name : List Item → Item → Bool
has_formal_name formals x = list_any (has_same_name x) formals

-- the new names of an item that isn't formal, where the formal ones are replaced. A new name of an operation that is formal with some
-- sorts replaces that one alone; with other sorts it keeps its name
abbrev pub kept_renaming : List Item → Renaming → Item → Renaming
kept_renaming formals renaming x = if has_formal_name formals x then record { sorts = renaming.sorts; operations = [] } else renaming

-- the image of an item that isn't formal, where the formal ones are replaced
abbrev pub kept_image : List Item → Renaming → Item → Item
kept_image formals renaming x = image (kept_renaming formals renaming x) x

-- how the image of an item is written: as its new name, or as what is copied

abbrev pub spelling_of_sort : List NewSort → Described → List ℕ
spelling_of_sort news d = unwrap_or (option_map (λ n. n.spelled) (for_sort news d.item.name)) d.spelled

abbrev pub spelling_of_operation : List NewOperation → Described → List ℕ
spelling_of_operation news d = unwrap_or (option_map (λ n. n.spelled) (for_operation news d.item)) d.spelled

abbrev pub spelling : Renaming → Described → List ℕ
spelling renaming d = if is_sort d.item then spelling_of_sort renaming.sorts d else spelling_of_operation renaming.operations d

-- a copy has the mark and the place of what it copies
abbrev pub described_image : Renaming → Described → Described
described_image renaming d = record { item = image renaming d.item; spelled = spelling renaming d; marked = d.marked; place = d.place }
