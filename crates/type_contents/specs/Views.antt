-- What the definitions see of the values of the code.
use Rattle.std.specs.Prelude.{ℕ, ◌≡◌, ◌<◌, Bool, false, List, [], ◌++◌, Option, Some, None, option_map, Vec, map, string_bytes}
use Rattle.std.specs.List.{slice_index_or, AllByRecursion}
use Rattle.type_contents.specs.declared.item.Item.{Item}
use Rattle.type_contents.specs.declared.own.Declared.{Declared}
use Rattle.type_contents.specs.declared.images.NewSort.{NewSort}
use Rattle.type_contents.specs.declared.images.NewOperation.{NewOperation}
use Rattle.type_contents.specs.declared.images.Renaming.{Renaming}
use Rattle.type_contents.specs.Items as items
use Rattle.type_contents.specs.Own.{sort_item}
use Rattle.type_contents.specs.Images as images
use Rattle.type_contents.specs.Contents.{Content, no_content, made_from}
use Rattle.type_contents.specs.Settled.{IsSettled}
use Rattle.type_contents.specs.FormalTypes.{is_formal_from}
use Rattle.type_contents.specs.Numbering.{parts_from, brings}
use Rattle.type_contents.specs.declared.standing.Standing.{Standing}
use Rattle.type_contents.specs.declared.order.Brought.{Brought}
use Rattle.type_contents.specs.declared.numbers.Numbers.{Numbers}
use Rattle.type_contents.specs.declared.parts.Parts.{Parts}
use Rattle.lotos_ast.specs.declared.types.TypeDef.{TypeDef}
use Rattle.std.specs.declared.alloc.Global.{Global}

abbrev pub item_of : Item → items.Item
item_of x = record { kind = x.kind; name = string_bytes x.name; sorts = map (λ s. string_bytes s) x.sorts.items }

abbrev pub described_of : Declared → items.Described
described_of d = record { item = item_of d.item; spelled = d.spelled.now.text; marked = d.marked; place = d.place }

abbrev pub new_sort_of : NewSort → images.NewSort
new_sort_of n = record { old = string_bytes n.old; new = string_bytes n.new; spelled = n.spelled.now.text }

abbrev pub new_operation_of : NewOperation → images.NewOperation
new_operation_of n = record {
  old_kind = n.old_kind;
  old = string_bytes n.old;
  new_kind = n.new_kind;
  new = string_bytes n.new;
  spelled = n.spelled.now.text;
}

abbrev pub renaming_by : List NewSort → List NewOperation → images.Renaming
renaming_by sorts operations = record { sorts = map new_sort_of sorts; operations = map new_operation_of operations }

abbrev pub renaming_view : Renaming → images.Renaming
renaming_view r = renaming_by r.sorts.items r.operations.items

abbrev pub no_item : items.Item
no_item = sort_item []

-- items by their numbers in a table
abbrev pub items_at : List items.Item → List ℕ → List items.Item
items_at table numbers = map (λ n. slice_index_or table n no_item) numbers

-- whether numbers are less than this one
abbrev pub AreWithin : ℕ → List ℕ → Type 0
AreWithin bound numbers = AllByRecursion (λ n. n < bound) numbers

-- what a type has, by numbers in a table

abbrev pub content_at : List items.Item → Numbers → Content
content_at table n = record { items = items_at table n.items.items; formals = items_at table n.formals.items }

-- nothing where it isn't made yet
abbrev pub made_at : List items.Item → Option Numbers → Content
made_at table None = no_content
made_at table (Some n) = content_at table n

abbrev pub made_items : Option Numbers → List ℕ
made_items None = []
made_items (Some n) = n.items.items

abbrev pub made_formals : Option Numbers → List ℕ
made_formals None = []
made_formals (Some n) = n.formals.items

-- of the type of a number
abbrev pub item_numbers : List (Option Numbers) → ℕ → List ℕ
item_numbers made k = made_items (slice_index_or made k None)

abbrev pub formal_numbers : List (Option Numbers) → ℕ → List ℕ
formal_numbers made k = made_formals (slice_index_or made k None)

abbrev pub IsMadeWithin : ℕ → Option Numbers → Type 0
IsMadeWithin bound m = AreWithin bound (made_items m) × AreWithin bound (made_formals m)

abbrev pub AreMadeWithin : ℕ → List (Option Numbers) → Type 0
AreMadeWithin bound made = AllByRecursion (IsMadeWithin bound) made

-- items of a table, and further items
abbrev pub gathered : List items.Item → Vec ℕ Global → Vec Item Global → List items.Item
gathered table numbers more = items_at table numbers.items ++ map item_of more.items

abbrev pub ArePartsWithin : ℕ → Parts → Type 0
ArePartsWithin bound p = AreWithin bound p.items.items × AreWithin bound p.formals.items

-- what has been made is what each round from the n-th on makes
abbrev pub AreSettled : List TypeDef → List items.Item → List (Option Numbers) → ℕ → Type 0
AreSettled types table made n = IsSettled no_content (made_from types) types (map (option_map (content_at table)) made) n

-- how types stand, as far as it is found

abbrev pub formal_at : Option Standing → Bool
formal_at None = false
formal_at (Some s) = s.formal

abbrev pub parts_at : Option Standing → List ℕ
parts_at None = []
parts_at (Some s) = s.parts.items

-- what has been found is what each round from the n-th on makes
abbrev pub AreStandingsSettled : List TypeDef → List (Option Standing) → ℕ → Type 0
AreStandingsSettled types found n = IsSettled false (is_formal_from types) types (map (option_map (λ s. s.formal)) found) n
    × IsSettled [] (parts_from types) types (map (option_map (λ s. s.parts.items)) found) n

-- what types bring in, as far as it is found
abbrev pub brought_of : Brought → List items.Described
brought_of b = map described_of b.all.items

abbrev pub brought_at : Option Brought → List items.Described
brought_at None = []
brought_at (Some b) = brought_of b

abbrev pub IsBroughtSettled : List TypeDef → List (Option Brought) → ℕ → Type 0
IsBroughtSettled types found n = IsSettled [] (brings types) types (map (option_map brought_of) found) n

-- a set has just the items that are described, in the same order
abbrev pub AreItemsOf : List Item → List items.Described → Type 0
AreItemsOf keys ds = map item_of keys ≡ map items.item_of ds
