-- Sets of names and of items that grow, and what is refused by them.
use Rattle.std.proofs.Common.{ℕ, ◌≡◌, ◌∙◌, ◌<◌, ◌+◌, refl, sym, ap, Global, Bool, true, false, not, ◌||◌, ◌&&◌, ◌==◌, List, [], ◌∷◌, ◌++◌, length, map, take, get_or, if◌then◌else◌}
use Rattle.std.specs.List.{list_any, flat_map}
use Rattle.std.specs.Cmp.Lexicographic.{pointwise}
use Rattle.std.specs.Str.{bytes_eq}
use Rattle.std.specs.String.{string_eq}
use Rattle.std.proofs.lemmas.List.{map-append}
use Rattle.std.proofs.lemmas.List.Folds.{list_any-append}
use denote.Enum.Bare.{sameb}
use Rattle.spec_core.proofs.Lists.{take_next}
use Rattle.lotos_ast.specs.declared.refusal.RefusalKind.{RefusalKind}
use Rattle.lotos_ast.specs.declared.token.Token.{Token}
use Rattle.lotos_ast.specs.declared.types.TypeDef.{TypeDef}
use Rattle.lotos_ast.specs.declared.types.TypeDef.TheVariants.{Library, Definition}
use Rattle.type_contents.specs.contracts.item_kind.ItemKind as kind
use Rattle.type_contents.specs.declared.item.Item.{Item}
use Rattle.type_contents.specs.Items.{Described, small, is_same_item}
use Rattle.type_contents.specs.Uses.{is_called}
use Rattle.type_contents.specs.Views.{item_of}
use Rattle.type_contents.proofs.Keys.{same_key}
use Rattle.type_names.specs.DuplicateNames.{name_twice, item_twice}
use Rattle.type_names.specs.NameSets.{has, IsSetOf, unless_known, library_type_name, has_item, IsItemSetOf}
use Rattle.type_names.specs.Refused.{refused}
use Rattle.type_names.specs.TypeCycles.{type_name}
use Rattle.type_names.specs.UnknownTypes.{unknown_type, is_library_type, unknown_library}
use Rattle.type_names.specs.declared.item_set.ItemSet.{ItemSet}
use Rattle.type_names.specs.declared.name_set.NameSet.{NameSet}

pub either : (b x : Bool) → (if b then true else x) ≡ (x || b)
either true true = refl
either true false = refl
either false true = refl
either false false = refl

last : (x b : Bool) → (x || (b || false)) ≡ (x || b)
last true true = refl
last true false = refl
last false true = refl
last false false = refl

-- whether one of some and one more is such
any_more : {A : Type 0} (p : A → Bool) (xs : List A) (x : A) → list_any p (xs ++ x ∷ []) ≡ (list_any p xs || p x)
any_more p xs x = list_any-append p xs (x ∷ []) ∙ last (list_any p xs) (p x)

-- a set with one more name
pub one_more : (old new : NameSet) (t : Token) (names : List Token) → ((text : List ℕ) → has new text ≡ (has old text || bytes_eq (small t) text))
    → IsSetOf old names → IsSetOf new (names ++ t ∷ [])
one_more old new t names added is = λ text.
    added text ∙ ap (λ z. z || bytes_eq (small t) text) (is text) ∙ sym (any_more (λ u. bytes_eq (small u) text) names t)

-- what is refused of a name, where it is known whether it is among these
pub twice_where : (set : NameSet) (t : Token) (names : List Token) → IsSetOf set names
    → name_twice names t ≡ (if has set (small t) then refused RefusalKind.DuplicateName t.place ∷ [] else [])
twice_where set t names is = ap (λ z. if z then refused RefusalKind.DuplicateName t.place ∷ [] else []) (sym (is (small t)))

-- the first names, and the next one
pub next_name : {A : Type 0} (g : A → Token) (xs : List A) (i : ℕ) (x : A) → i < length xs → x ≡ get_or xs i x → map g (take i xs) ++ g x ∷ [] ≡ map g (take (i + 1) xs)
next_name g xs i x within at = sym (ap (map g) (take_next xs i x within at) ∙ map-append g (take i xs) (x ∷ []))

-- equality of keys is that of items
any_key : (x : Item) (keys : List Item)
    → list_any (λ y. sameb kind.the_type x.kind y.kind && (string_eq x.name y.name && pointwise (string_eq {Z = Global}) x.sorts.items y.sorts.items)) keys
    ≡ list_any (λ y. is_same_item (item_of x) (item_of y)) keys
any_key x [] = refl
any_key x (y ∷ ys) =
    ap (λ z. z || list_any (λ y. sameb kind.the_type x.kind y.kind && (string_eq x.name y.name && pointwise (string_eq {Z = Global}) x.sorts.items y.sorts.items)) ys) (same_key x y)
    ∙ ap (λ z. is_same_item (item_of x) (item_of y) || z) (any_key x ys)

pub has_key : (set : ItemSet) (x : Item)
    → list_any (λ y. sameb kind.the_type x.kind y.kind && (string_eq x.name y.name && pointwise (string_eq {Z = Global}) x.sorts.items y.sorts.items)) set.items.keys
    ≡ has_item set (item_of x)
has_key set x = any_key x set.items.keys

-- the same after one more item is put in
pub has_after : (x : Item) (b : Bool) (keys : List Item) (old : Bool)
    → list_any (λ y. sameb kind.the_type x.kind y.kind && (string_eq x.name y.name && pointwise (string_eq {Z = Global}) x.sorts.items y.sorts.items)) keys ≡ old
    → (if b then true else list_any (λ y. sameb kind.the_type x.kind y.kind && (string_eq x.name y.name && pointwise (string_eq {Z = Global}) x.sorts.items y.sorts.items)) keys) ≡ (old || b)
has_after x b keys old e = ap (λ z. if b then true else z) e ∙ either b old

-- a set with one more item
pub one_more_item : (old new : ItemSet) (x : Item) (ds : List Described) (d : Described)
    → ((y : Item) → has_item new (item_of y) ≡ (has_item old (item_of y) || is_same_item (item_of x) (item_of y)))
    → IsItemSetOf old ds → d.item ≡ item_of x → IsItemSetOf new (ds ++ d ∷ [])
one_more_item old new x ds d added is same = λ y.
    added y ∙ ap (λ z. z || is_same_item (item_of x) (item_of y)) (is y)
    ∙ ap (λ z. list_any (λ e. is_same_item e.item (item_of y)) ds || is_same_item z (item_of y)) (sym same)
    ∙ sym (any_more (λ e. is_same_item e.item (item_of y)) ds d)

-- what is refused of an item, where it is known whether it is among these
item_twice_where : (set : ItemSet) (x : Item) (ds : List Described) (d : Described) → IsItemSetOf set ds → d.item ≡ item_of x
    → item_twice ds d ≡ (if has_item set (item_of x) then refused RefusalKind.DuplicateName d.place ∷ [] else [])
item_twice_where set x ds d is same =
    ap (λ y. if list_any (λ e. is_same_item e.item y) ds then refused RefusalKind.DuplicateName d.place ∷ [] else []) same
    ∙ ap (λ z. if z then refused RefusalKind.DuplicateName d.place ∷ [] else []) (sym (is x))

was_there : (new there : Bool) → new ≡ not there → new ≡ false → there ≡ true
was_there true there e h = absurd (cc)
was_there false true e h = refl
was_there false false e h = absurd (cc)

was_new : (new there : Bool) → new ≡ not there → new ≡ true → there ≡ false
was_new true true e h = absurd (cc)
was_new true false e h = refl
was_new false there e h = absurd (cc)

pub refused_there : (set : ItemSet) (x : Item) (ds : List Described) (d : Described) (new : Bool) → new ≡ not (has_item set (item_of x)) → new ≡ false
    → IsItemSetOf set ds → d.item ≡ item_of x → item_twice ds d ≡ refused RefusalKind.DuplicateName d.place ∷ []
refused_there set x ds d new added h is same =
    item_twice_where set x ds d is same
    ∙ ap (λ z. if z then refused RefusalKind.DuplicateName d.place ∷ [] else []) (was_there new (has_item set (item_of x)) added h)

pub none_refused : (set : ItemSet) (x : Item) (ds : List Described) (d : Described) (new : Bool) → new ≡ not (has_item set (item_of x)) → new ≡ true
    → IsItemSetOf set ds → d.item ≡ item_of x → item_twice ds d ≡ []
none_refused set x ds d new added h is same =
    item_twice_where set x ds d is same
    ∙ ap (λ z. if z then refused RefusalKind.DuplicateName d.place ∷ [] else []) (was_new new (has_item set (item_of x)) added h)

-- whether a type has a name, by the names of all

any_called : (name : List ℕ) (types : List TypeDef) → list_any (is_called name) types ≡ list_any (λ t. bytes_eq (small t) name) (flat_map type_name types)
any_called name [] = refl
any_called name (Library place names ∷ ds) = any_called name ds
any_called name (Definition place own body ∷ ds) = ap (λ z. bytes_eq (small own) name || z) (any_called name ds)

in_library : (name : List ℕ) (own : Token) (b : Bool) (rest : List Token) → (bytes_eq (small own) name && b) || list_any (λ t. bytes_eq (small t) name) rest
    ≡ list_any (λ t. bytes_eq (small t) name) ((if b then own ∷ [] else []) ++ rest)
in_library name own true rest = ap (λ z. z || list_any (λ t. bytes_eq (small t) name) rest) (and_true (bytes_eq (small own) name))
  where
    and_true : (b : Bool) → (b && true) ≡ b
    and_true true = refl
    and_true false = refl
in_library name own false rest = ap (λ z. z || list_any (λ t. bytes_eq (small t) name) rest) (and_false (bytes_eq (small own) name))
  where
    and_false : (b : Bool) → (b && false) ≡ false
    and_false true = refl
    and_false false = refl

any_in_library : (name : List ℕ) (types : List TypeDef)
    → list_any (is_library_type name) types ≡ list_any (λ t. bytes_eq (small t) name) (flat_map library_type_name types)
any_in_library name [] = refl
any_in_library name (Library place names ∷ ds) = any_in_library name ds
any_in_library name (Definition place own body ∷ ds) =
    ap (λ z. (bytes_eq (small own) name && (own.place.line == 0)) || z) (any_in_library name ds)
    ∙ in_library name own (own.place.line == 0) (flat_map library_type_name ds)

-- what is refused of names that a set doesn't have

pub unknown_by : (known : NameSet) (types : List TypeDef) (names : List Token) → IsSetOf known (flat_map type_name types)
    → flat_map (unless_known known) names ≡ flat_map (unknown_type types) names
unknown_by known types [] is = refl
unknown_by known types (t ∷ ts) is =
    ap (λ z. (if z then [] else refused RefusalKind.UnknownType t.place ∷ []) ++ flat_map (unless_known known) ts) (is (small t) ∙ sym (any_called (small t) types))
    ∙ ap (λ z. unknown_type types t ++ z) (unknown_by known types ts is)

pub unknown_library_by : (known : NameSet) (types : List TypeDef) (names : List Token) → IsSetOf known (flat_map library_type_name types)
    → flat_map (unless_known known) names ≡ flat_map (unknown_library types) names
unknown_library_by known types [] is = refl
unknown_library_by known types (t ∷ ts) is =
    ap (λ z. (if z then [] else refused RefusalKind.UnknownType t.place ∷ []) ++ flat_map (unless_known known) ts) (is (small t) ∙ sym (any_in_library (small t) types))
    ∙ ap (λ z. unknown_library types t ++ z) (unknown_library_by known types ts is)
