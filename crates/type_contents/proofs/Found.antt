-- Items that are found, in a set, and numbers in a set.
use Rattle.std.proofs.Common.{◌≡◌, ◌∙◌, refl, sym, ap, Global, ℕ, nat_eq, Bool, true, false, not, ◌||◌, ◌&&◌, List, [], ◌∷◌, ◌++◌, map, if◌then◌else◌}
use Rattle.std.specs.List.{list_any, fold, filter, slice_index_or}
use Rattle.std.specs.Cmp.Lexicographic.{pointwise}
use Rattle.std.specs.String.{string_eq}
use Rattle.std.proofs.lemmas.Bool.{eqb-true}
use Rattle.std.proofs.lemmas.List.{map-append}
use Rattle.std.proofs.lemmas.List.Folds.{list_any-append}
use denote.Enum.Bare.{sameb}
use Rattle.type_contents.specs.contracts.item_kind.ItemKind as kind
use Rattle.type_contents.specs.declared.item.Item.{Item}
use Rattle.type_contents.specs.Items as items
use Rattle.type_contents.specs.Items.{Described, is_same_item, is_same_described, is_in}
use Rattle.type_contents.specs.Lists.{with_one, each_once}
use Rattle.type_contents.specs.Numbering.{brought_by}
use Rattle.type_contents.specs.Views.{item_of, AreItemsOf}
use Rattle.type_contents.proofs.Keys.{same_key}

was_new : (new there : Bool) → new ≡ not there → new ≡ true → there ≡ false
was_new true true e h = absurd (cc)
was_new true false e h = refl
was_new false there e h = absurd (cc)

was_there : (new there : Bool) → new ≡ not there → new ≡ false → there ≡ true
was_there true there e h = absurd (cc)
was_there false true e h = refl
was_there false false e h = absurd (cc)

-- equality of keys is that of items
any_key : (x : Item) (keys : List Item) → list_any (λ y. sameb kind.the_type x.kind y.kind && (string_eq x.name y.name && pointwise (string_eq {Z = Global}) x.sorts.items y.sorts.items)) keys ≡ list_any (is_same_item (item_of x)) (map item_of keys)
any_key x [] = refl
any_key x (y ∷ ys) =
    ap (λ z. z || list_any (λ y. sameb kind.the_type x.kind y.kind && (string_eq x.name y.name && pointwise (string_eq {Z = Global}) x.sorts.items y.sorts.items)) ys) (same_key x y)
    ∙ ap (λ z. is_same_item (item_of x) (item_of y) || z) (any_key x ys)

any_described : (d : Described) (ds : List Described) → list_any (is_same_described d) ds ≡ list_any (is_same_item d.item) (map items.item_of ds)
any_described d [] = refl
any_described d (e ∷ es) = ap (λ z. is_same_item d.item e.item || z) (any_described d es)

-- whether an item is described, by the set
found_where : (keys : List Item) (x : Item) (ds : List Described) (d : Described) → AreItemsOf keys ds → item_of x ≡ d.item
    → list_any (λ y. sameb kind.the_type x.kind y.kind && (string_eq x.name y.name && pointwise (string_eq {Z = Global}) x.sorts.items y.sorts.items)) keys ≡ list_any (is_same_described d) ds
found_where keys x ds d are same =
    any_key x keys ∙ ap (list_any (is_same_item (item_of x))) are ∙ ap (λ z. list_any (is_same_item z) (map items.item_of ds)) same ∙ sym (any_described d ds)

-- a new item
pub put_all : (keys : List Item) (x : Item) (ds more : List Described) (d : Described) (new : Bool) → AreItemsOf keys ds → item_of x ≡ d.item
    → new ≡ not (list_any (λ y. sameb kind.the_type x.kind y.kind && (string_eq x.name y.name && pointwise (string_eq {Z = Global}) x.sorts.items y.sorts.items)) keys) → new ≡ true → more ≡ ds ++ d ∷ [] → more ≡ with_one is_same_described ds d
put_all keys x ds more d new are same added h is =
    is ∙ sym (ap (λ z. if z then ds else ds ++ d ∷ []) (sym (found_where keys x ds d are same) ∙ was_new new (list_any (λ y. sameb kind.the_type x.kind y.kind && (string_eq x.name y.name && pointwise (string_eq {Z = Global}) x.sorts.items y.sorts.items)) keys) added h))

pub put_found : (keys after : List Item) (x : Item) (ds more : List Described) (d : Described) (new : Bool) → AreItemsOf keys ds → item_of x ≡ d.item
    → new ≡ not (list_any (λ y. sameb kind.the_type x.kind y.kind && (string_eq x.name y.name && pointwise (string_eq {Z = Global}) x.sorts.items y.sorts.items)) keys) → new ≡ true
    → after ≡ (if list_any (λ y. sameb kind.the_type x.kind y.kind && (string_eq x.name y.name && pointwise (string_eq {Z = Global}) x.sorts.items y.sorts.items)) keys then keys else keys ++ x ∷ []) → more ≡ ds ++ d ∷ [] → AreItemsOf after more
put_found keys after x ds more d new are same added h behind is =
    ap (map item_of) (behind ∙ ap (λ z. if z then keys else keys ++ x ∷ []) (was_new new (list_any (λ y. sameb kind.the_type x.kind y.kind && (string_eq x.name y.name && pointwise (string_eq {Z = Global}) x.sorts.items y.sorts.items)) keys) added h))
    ∙ map-append item_of keys (x ∷ []) ∙ ap (λ z. z ++ item_of x ∷ []) are ∙ ap (λ z. map items.item_of ds ++ z ∷ []) same
    ∙ sym (ap (map items.item_of) is ∙ map-append items.item_of ds (d ∷ []))

-- an item that is there
pub left_all : (keys : List Item) (x : Item) (ds : List Described) (d : Described) (new : Bool) → AreItemsOf keys ds → item_of x ≡ d.item
    → new ≡ not (list_any (λ y. sameb kind.the_type x.kind y.kind && (string_eq x.name y.name && pointwise (string_eq {Z = Global}) x.sorts.items y.sorts.items)) keys) → new ≡ false → ds ≡ with_one is_same_described ds d
left_all keys x ds d new are same added h =
    sym (ap (λ z. if z then ds else ds ++ d ∷ []) (sym (found_where keys x ds d are same) ∙ was_there new (list_any (λ y. sameb kind.the_type x.kind y.kind && (string_eq x.name y.name && pointwise (string_eq {Z = Global}) x.sorts.items y.sorts.items)) keys) added h))

pub left_found : (keys after : List Item) (x : Item) (ds : List Described) (new : Bool) → AreItemsOf keys ds
    → new ≡ not (list_any (λ y. sameb kind.the_type x.kind y.kind && (string_eq x.name y.name && pointwise (string_eq {Z = Global}) x.sorts.items y.sorts.items)) keys) → new ≡ false
    → after ≡ (if list_any (λ y. sameb kind.the_type x.kind y.kind && (string_eq x.name y.name && pointwise (string_eq {Z = Global}) x.sorts.items y.sorts.items)) keys then keys else keys ++ x ∷ []) → AreItemsOf after ds
left_found keys after x ds new are added h behind =
    ap (map item_of) (behind ∙ ap (λ z. if z then keys else keys ++ x ∷ []) (was_there new (list_any (λ y. sameb kind.the_type x.kind y.kind && (string_eq x.name y.name && pointwise (string_eq {Z = Global}) x.sorts.items y.sorts.items)) keys) added h)) ∙ are

-- numbers

or_false : (b : Bool) → (b || false) ≡ b
or_false true = refl
or_false false = refl

or_assoc : (a b c : Bool) → ((a || b) || c) ≡ (a || (b || c))
or_assoc true b c = refl
or_assoc false b c = refl

any_with : (n : ℕ) (some : List ℕ) (y : ℕ) → list_any (nat_eq n) (with_one nat_eq some y) ≡ (list_any (nat_eq n) some || nat_eq n y)
any_with n some y = by_test (list_any (nat_eq y) some) refl
  where
    there : list_any (nat_eq y) some ≡ true → (b : Bool) → nat_eq n y ≡ b → list_any (nat_eq n) some ≡ (list_any (nat_eq n) some || nat_eq n y)
    there e true f =
        let t : list_any (nat_eq n) some ≡ true = ap (λ z. list_any (nat_eq z) some) (eqb-true n y f) ∙ e in
        t ∙ sym (ap (λ z. z || nat_eq n y) t)
    there e false f = sym (ap (λ z. list_any (nat_eq n) some || z) f ∙ or_false (list_any (nat_eq n) some))

    by_test : (b : Bool) → list_any (nat_eq y) some ≡ b → list_any (nat_eq n) (with_one nat_eq some y) ≡ (list_any (nat_eq n) some || nat_eq n y)
    by_test true e = ap (λ z. list_any (nat_eq n) (if z then some else some ++ y ∷ [])) e ∙ there e (nat_eq n y) refl
    by_test false e =
        ap (λ z. list_any (nat_eq n) (if z then some else some ++ y ∷ [])) e ∙ list_any-append (nat_eq n) some (y ∷ [])
        ∙ ap (λ z. list_any (nat_eq n) some || z) (or_false (nat_eq n y))

any_behind : (n : ℕ) (xs some : List ℕ) → list_any (nat_eq n) (fold (with_one nat_eq) some xs) ≡ (list_any (nat_eq n) some || list_any (nat_eq n) xs)
any_behind n [] some = sym (or_false (list_any (nat_eq n) some))
any_behind n (y ∷ ys) some =
    any_behind n ys (with_one nat_eq some y) ∙ ap (λ z. z || list_any (nat_eq n) ys) (any_with n some y)
    ∙ or_assoc (list_any (nat_eq n) some) (nat_eq n y) (list_any (nat_eq n) ys)

-- a number is among others exactly where it is among them each once
pub any_once : (n : ℕ) (xs : List ℕ) → list_any (nat_eq n) (each_once nat_eq xs) ≡ list_any (nat_eq n) xs
any_once n xs = any_behind n xs []

-- what a type brings in, by another list of the same numbers
pub brought_same : (brought : List (List Described)) (among keys : List ℕ) (content : List items.Item) (k : ℕ) → list_any (nat_eq k) keys ≡ list_any (nat_eq k) among
    → brought_by brought keys content k ≡ brought_by brought among content k
brought_same brought among keys content k e = ap (λ b. if b then filter (λ d. is_in content d.item) (slice_index_or brought k []) else []) e
