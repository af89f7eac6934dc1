-- Equality of keys in maps is that of items.
use Rattle.std.proofs.Common.{◌≡◌, ◌&&◌, ◌∙◌, refl, sym, ap, Global, List, [], ◌∷◌, ℕ, true, false}
use Rattle.std.specs.Cmp.Derive.Mapped.{pointwise-map}
use Rattle.std.specs.Cmp.Lexicographic.{pointwise, same_text}
use Rattle.std.specs.Str.{bytes_eq}
use Rattle.std.specs.Prelude.{string_bytes, map, Some, option_map, slice_get}
use Rattle.std.specs.List.{AllByRecursion, IsDistinct}
use Rattle.std.proofs.lemmas.Option.{slice_get-map}
use Rattle.std.specs.String.{string_eq}
use Rattle.std.proofs.Math.Bool.{and_assoc}
use Rattle.std.proofs.lemmas.Bool.{and_parts}
use denote.Enum.Bare.{sameb}
use Rattle.type_contents.specs.contracts.item_kind.ItemKind as kind
use Rattle.type_contents.specs.declared.item.Item.{Item}
use Rattle.type_contents.specs.declared.item_kind.ItemKind.{ItemKind}
use Rattle.type_contents.specs.declared.item_kind.ItemKind.TheVariants.{Sort, Prefix, Infix}
use Rattle.type_contents.specs.Items as items
use Rattle.type_contents.specs.Items.{is_same_item, is_same_kind, has_same_name}
use Rattle.type_contents.specs.Views.{item_of}

same_kind : (a b : ItemKind) → sameb kind.the_type a b ≡ is_same_kind a b
same_kind Sort Sort = refl
same_kind Sort Prefix = refl
same_kind Sort Infix = refl
same_kind Prefix Sort = refl
same_kind Prefix Prefix = refl
same_kind Prefix Infix = refl
same_kind Infix Sort = refl
same_kind Infix Prefix = refl
same_kind Infix Infix = refl

pub same_key : (a b : Item) → (sameb kind.the_type a.kind b.kind && (string_eq a.name b.name && pointwise (string_eq {Z = Global}) a.sorts.items b.sorts.items)) ≡ is_same_item (item_of a) (item_of b)
same_key a b =
    ap (λ z. z && (string_eq a.name b.name && pointwise (string_eq {Z = Global}) a.sorts.items b.sorts.items)) (same_kind a.kind b.kind)
    ∙ ap (λ z. is_same_kind a.kind b.kind && (bytes_eq (string_bytes a.name) (string_bytes b.name) && z)) (sym (pointwise-map (λ s. string_bytes {Z = Global} s) bytes_eq a.sorts.items b.sorts.items))
    ∙ sym (and_assoc (is_same_kind a.kind b.kind) (bytes_eq (string_bytes a.name) (string_bytes b.name)) (pointwise bytes_eq (map (λ s. string_bytes {Z = Global} s) a.sorts.items) (map (λ s. string_bytes {Z = Global} s) b.sorts.items)))

-- two items that are one are equal

same_names : (xs ys : List (List ℕ)) → pointwise bytes_eq xs ys ≡ true → xs ≡ ys
same_names [] [] e = refl
same_names [] (y ∷ ys) e = absurd (cc)
same_names (x ∷ xs) [] e = absurd (cc)
same_names (x ∷ xs) (y ∷ ys) e =
    let h : (bytes_eq x y ≡ true) × (pointwise bytes_eq xs ys ≡ true) = and_parts (bytes_eq x y) (pointwise bytes_eq xs ys) e in
    ap (λ z. z ∷ xs) (same_text x y (sym h.0)) ∙ ap (λ zs. y ∷ zs) (same_names xs ys h.1)

one_kind : (a b : ItemKind) → is_same_kind a b ≡ true → a ≡ b
one_kind Sort Sort e = refl
one_kind Prefix Prefix e = refl
one_kind Infix Infix e = refl
one_kind Sort Prefix e = absurd (cc)
one_kind Sort Infix e = absurd (cc)
one_kind Prefix Sort e = absurd (cc)
one_kind Prefix Infix e = absurd (cc)
one_kind Infix Sort e = absurd (cc)
one_kind Infix Prefix e = absurd (cc)

made : (k k' : ItemKind) (n n' : List ℕ) (s s' : List (List ℕ)) → k ≡ k' → n ≡ n' → s ≡ s' → ◌≡◌ {A = items.Item} (record { kind = k; name = n; sorts = s }) (record { kind = k'; name = n'; sorts = s' })
made k k' n n' s s' e f g =
    ap (λ z. record { kind = z; name = n; sorts = s }) e ∙ ap (λ z. record { kind = k'; name = z; sorts = s }) f ∙ ap (λ z. record { kind = k'; name = n'; sorts = z }) g

pub one_item : (a b : items.Item) → is_same_item a b ≡ true → a ≡ b
one_item a b e =
    let h : (has_same_name a b ≡ true) × (pointwise bytes_eq a.sorts b.sorts ≡ true) = and_parts (has_same_name a b) (pointwise bytes_eq a.sorts b.sorts) e in
    let i : (is_same_kind a.kind b.kind ≡ true) × (bytes_eq a.name b.name ≡ true) = and_parts (is_same_kind a.kind b.kind) (bytes_eq a.name b.name) h.0 in
    made a.kind b.kind a.name b.name a.sorts b.sorts (one_kind a.kind b.kind i.0) (same_text a.name b.name (sym i.1)) (same_names a.sorts b.sorts h.1)

-- a key that is the item which was looked for
pub stored_item : (keys : List Item) (n : ℕ) (k x : Item) → slice_get keys n ≡ Some k → is_same_item (item_of x) (item_of k) ≡ true → slice_get (map item_of keys) n ≡ Some (item_of x)
stored_item keys n k x at same = slice_get-map item_of keys n ∙ ap (option_map item_of) at ∙ ap Some (sym (one_item (item_of x) (item_of k) same))

none_is_same : (x : Item) (keys : List Item) → AllByRecursion (λ y. (sameb kind.the_type x.kind y.kind && (string_eq x.name y.name && pointwise (string_eq {Z = Global}) x.sorts.items y.sorts.items)) ≡ false) keys → AllByRecursion (λ y. is_same_item (item_of x) y ≡ false) (map item_of keys)
none_is_same x [] h = tt
none_is_same x (y ∷ ys) h = (sym (same_key x y) ∙ h.0, none_is_same x ys h.1)

pub distinct_items : (keys : List Item) → IsDistinct (λ a b. sameb kind.the_type a.kind b.kind && (string_eq a.name b.name && pointwise (string_eq {Z = Global}) a.sorts.items b.sorts.items)) keys → IsDistinct is_same_item (map item_of keys)
unfolding IsDistinct
distinct_items [] h = tt
distinct_items (x ∷ xs) h = (none_is_same x xs h.0, distinct_items xs h.1)
