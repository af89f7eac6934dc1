-- The union of items by their numbers.
use Rattle.std.proofs.Common.{◌≡◌, ◌∙◌, refl, sym, ap, List, [], ◌∷◌, ℕ, zero, suc, ◌<◌, length, get_or, arith, Bool, true, false, ◌&&◌, ◌||◌, nat_eq}
use Rattle.std.specs.List.{AllByRecursion, IsDistinct, list_any, fold}
use Rattle.std.specs.Str.{bytes_eq}
use Rattle.std.specs.Cmp.Lexicographic.{pointwise}
use Rattle.std.proofs.lemmas.Cmp.{nat_list_eq_equiv}
use Rattle.std.proofs.lemmas.List.{map-append}
use Rattle.std.proofs.Math.Dec.{eqb-suc-suc, eqb-zero-suc, eqb-suc-zero}
use Rattle.type_contents.specs.declared.item_kind.ItemKind.{ItemKind}
use Rattle.type_contents.specs.declared.item_kind.ItemKind.TheVariants.{Sort, Prefix, Infix}
use Rattle.type_contents.specs.Items.{Item, is_same_item, is_same_kind, has_same_name, is_in, union}
use Rattle.type_contents.specs.Lists.{with_one, each_once}
use Rattle.type_contents.specs.Views.{items_at, no_item, AreWithin}
use Rattle.type_contents.proofs.Tables.{within_joined}

-- being one is an equivalence

kind_symm : (a b : ItemKind) → is_same_kind a b ≡ is_same_kind b a
kind_symm Sort Sort = refl
kind_symm Sort Prefix = refl
kind_symm Sort Infix = refl
kind_symm Prefix Sort = refl
kind_symm Prefix Prefix = refl
kind_symm Prefix Infix = refl
kind_symm Infix Sort = refl
kind_symm Infix Prefix = refl
kind_symm Infix Infix = refl

kind_self : (a : ItemKind) → is_same_kind a a ≡ true
kind_self Sort = refl
kind_self Prefix = refl
kind_self Infix = refl

names_symm : (xs ys : List (List ℕ)) → pointwise bytes_eq xs ys ≡ pointwise bytes_eq ys xs
names_symm [] [] = refl
names_symm [] (y ∷ ys) = refl
names_symm (x ∷ xs) [] = refl
names_symm (x ∷ xs) (y ∷ ys) = ap (λ z. z && pointwise bytes_eq xs ys) (nat_list_eq_equiv.symm x y) ∙ ap (λ z. bytes_eq y x && z) (names_symm xs ys)

names_self : (xs : List (List ℕ)) → pointwise bytes_eq xs xs ≡ true
names_self [] = refl
names_self (x ∷ xs) = ap (λ z. z && pointwise bytes_eq xs xs) (nat_list_eq_equiv.refl x) ∙ names_self xs

pub item_symm : (a b : Item) → is_same_item a b ≡ is_same_item b a
item_symm a b =
    ap (λ z. z && bytes_eq a.name b.name && pointwise bytes_eq a.sorts b.sorts) (kind_symm a.kind b.kind)
    ∙ ap (λ z. is_same_kind b.kind a.kind && z && pointwise bytes_eq a.sorts b.sorts) (nat_list_eq_equiv.symm a.name b.name)
    ∙ ap (λ z. has_same_name b a && z) (names_symm a.sorts b.sorts)

pub item_self : (a : Item) → is_same_item a a ≡ true
item_self a =
    ap (λ z. z && bytes_eq a.name a.name && pointwise bytes_eq a.sorts a.sorts) (kind_self a.kind)
    ∙ ap (λ z. z && pointwise bytes_eq a.sorts a.sorts) (nat_list_eq_equiv.refl a.name) ∙ names_self a.sorts

-- numbers are equal exactly where their items are one

differs_at : (x : Item) (t : List Item) (n : ℕ) → AllByRecursion (λ y. is_same_item x y ≡ false) t → n < length t → is_same_item x (get_or t n no_item) ≡ false
differs_at x [] n h w = absurd (omega (arith, w))
differs_at x (y ∷ ys) zero h w = h.0
differs_at x (y ∷ ys) (suc n) h w = differs_at x ys n h.1 (omega (arith, w))

pub same_number : (t : List Item) (n m : ℕ) → IsDistinct is_same_item t → n < length t → m < length t → nat_eq n m ≡ is_same_item (get_or t n no_item) (get_or t m no_item)
unfolding IsDistinct
same_number [] n m d v w = absurd (omega (arith, v))
same_number (x ∷ xs) zero zero d v w = sym (item_self x)
same_number (x ∷ xs) zero (suc m) d v w = eqb-zero-suc m ∙ sym (differs_at x xs m d.0 (omega (arith, w)))
same_number (x ∷ xs) (suc n) zero d v w = eqb-suc-zero n ∙ sym (item_symm (get_or xs n no_item) x ∙ differs_at x xs n d.0 (omega (arith, v)))
same_number (x ∷ xs) (suc n) (suc m) d v w = eqb-suc-suc n m ∙ same_number xs n m d.1 (omega (arith, v)) (omega (arith, w))

pub among : (t : List Item) (n : ℕ) (ns : List ℕ) → IsDistinct is_same_item t → n < length t → AreWithin (length t) ns → list_any (nat_eq n) ns ≡ is_in (items_at t ns) (get_or t n no_item)
among t n [] d v h = refl
among t n (m ∷ ms) d v h = ap (λ z. z || list_any (nat_eq n) ms) (same_number t n m d v h.0) ∙ ap (λ z. is_same_item (get_or t n no_item) (get_or t m no_item) || z) (among t n ms d v h.1)

-- the union by numbers

within_one : (bound : ℕ) (ns : List ℕ) (n : ℕ) → AreWithin bound ns → n < bound → AreWithin bound (with_one nat_eq ns n)
within_one bound ns n h v = by_test (list_any (nat_eq n) ns) refl
  where
    by_test : (b : Bool) → list_any (nat_eq n) ns ≡ b → AreWithin bound (with_one nat_eq ns n)
    by_test true e = rw e h
    by_test false e = rw e (within_joined bound ns (n ∷ []) h (v, tt))

within_all : (bound : ℕ) (ns ms : List ℕ) → AreWithin bound ns → AreWithin bound ms → AreWithin bound (fold (with_one nat_eq) ns ms)
within_all bound ns [] h k = h
within_all bound ns (m ∷ ms) h k = within_all bound (with_one nat_eq ns m) ms (within_one bound ns m h k.0) k.1

pub within_union : (bound : ℕ) (ns : List ℕ) → AreWithin bound ns → AreWithin bound (each_once nat_eq ns)
within_union bound ns h = within_all bound [] ns tt h

one_more : (t : List Item) (ns : List ℕ) (n : ℕ) → IsDistinct is_same_item t → AreWithin (length t) ns → n < length t → items_at t (with_one nat_eq ns n) ≡ with_one is_same_item (items_at t ns) (get_or t n no_item)
one_more t ns n d h v = by_test (list_any (nat_eq n) ns) refl
  where
    by_test : (b : Bool) → list_any (nat_eq n) ns ≡ b → items_at t (with_one nat_eq ns n) ≡ with_one is_same_item (items_at t ns) (get_or t n no_item)
    by_test true e = rw e (rw (← among t n ns d v h) (rw e refl))
    by_test false e = rw e (rw (← among t n ns d v h) (rw e (map-append (λ k. get_or t k no_item) ns (n ∷ []))))

all_more : (t : List Item) (ns ms : List ℕ) → IsDistinct is_same_item t → AreWithin (length t) ns → AreWithin (length t) ms → items_at t (fold (with_one nat_eq) ns ms) ≡ fold (with_one is_same_item) (items_at t ns) (items_at t ms)
all_more t ns [] d h k = refl
all_more t ns (m ∷ ms) d h k =
    all_more t (with_one nat_eq ns m) ms d (within_one (length t) ns m h k.0) k.1
    ∙ ap (λ z. fold (with_one is_same_item) z (items_at t ms)) (one_more t ns m d h k.0)

pub union_by_numbers : (t : List Item) (ns : List ℕ) → IsDistinct is_same_item t → AreWithin (length t) ns → items_at t (each_once nat_eq ns) ≡ union (items_at t ns)
union_by_numbers t ns d h = all_more t [] ns d tt h
