-- Sorts and operations among others, and their numbers.
use Rattle.std.proofs.Common.{ℕ, zero, suc, ◌≡◌, ◌∙◌, refl, sym, ap, subst, List, [], ◌∷◌, map, Some, Bool, true}
use Rattle.std.specs.Prelude.{option_map}
use Rattle.std.specs.List.{filter, list_any, slice_get, slice_index_or}
use Rattle.std.proofs.lemmas.Option.{same_Some, none-some, slice_get-map}
use Rattle.spec_core.specs.Lists.{IsOneOf}
use Rattle.spec_core.proofs.Members.{one_map, one_filter, one_slice_get, from_map}
use Rattle.type_contents.specs.Items.{Item, Described, item_of, is_in, is_same_item, is_same_described, union, firsts}
use Rattle.type_contents.specs.Numbering.{number_among}
use Rattle.type_contents.proofs.Keys.{one_item}
use Rattle.type_contents.proofs.Unions.{item_self}
use Rattle.type_images.specs.Images.{new_number}
use Rattle.type_equation_copies.specs.Copies.{image_numbers}
use Rattle.static_laws.proofs.Membership.{any-in, in-any, first-there, in-once, once-from, once-unlike, no-two-kept, unlike-one}

pub is-among : (all : List Item) (x : Item) → is_in all x ≡ true → IsOneOf x all
is-among all x e = by-same (any-in (is_same_item x) all e)
  where
    by-same : (y : Item) × IsOneOf y all × (is_same_item x y ≡ true) → IsOneOf x all
    by-same (y, h, s) = subst (λ z. IsOneOf z all) (sym (one_item x y s)) h

pub among-is : (all : List Item) (x : Item) → IsOneOf x all → is_in all x ≡ true
among-is all x h = in-any (is_same_item x) x all h (item_self x)

-- the union has all of them, and no other
pub in-union : (all : List Item) (x : Item) → IsOneOf x all → IsOneOf x (union all)
in-union all x h = by-same (in-once is_same_item item_self all x h)
  where
    by-same : (y : Item) × IsOneOf y (union all) × (is_same_item x y ≡ true) → IsOneOf x (union all)
    by-same (y, i, s) = subst (λ z. IsOneOf z (union all)) (sym (one_item x y s)) i

pub union-from : (all : List Item) (x : Item) → IsOneOf x (union all) → IsOneOf x all
union-from all x h = once-from is_same_item all x h

-- an item is described among these
abbrev pub IsDescribed : List Described → Item → Type 0
IsDescribed all x = IsOneOf x (map item_of all)

pub described : (all : List Described) (d : Described) → IsOneOf d all → IsDescribed all d.item
described all d h = one_map item_of d all h

pub in-firsts : (all : List Described) (x : Item) → IsDescribed all x → IsDescribed (firsts all) x
in-firsts all x h = by-description (from_map item_of all x h)
  where
    by-same : (d : Described) → x ≡ d.item → (e : Described) × IsOneOf e (firsts all) × (is_same_described d e ≡ true) → IsDescribed (firsts all) x
    by-same d is (e, i, s) = subst (λ z. IsDescribed (firsts all) z) (sym (is ∙ one_item d.item e.item s)) (described (firsts all) e i)

    by-description : (d : Described) × IsOneOf d all × (x ≡ d.item) → IsDescribed (firsts all) x
    by-description (d, i, is) = by-same d is (in-once is_same_described (λ z. item_self z.item) all d i)

-- and among those of them that pass a test
pub in-passing : (p : Described → Bool) (all : List Described) (x : Item) → IsDescribed all x → ((d : Described) → d.item ≡ x → p d ≡ true) → IsDescribed (filter p all) x
in-passing p all x h passes = by-description (from_map item_of all x h)
  where
    by-description : (d : Described) × IsOneOf d all × (x ≡ d.item) → IsDescribed (filter p all) x
    by-description (d, i, is) = subst (λ z. IsDescribed (filter p all) z) (sym is) (described (filter p all) d (one_filter p d all i (passes d (sym is))))

pub firsts-from : (all : List Described) (d : Described) → IsOneOf d (firsts all) → IsOneOf d all
firsts-from all d h = once-from is_same_described all d h

-- the number of an item is that of its place
pub number-there : (all : List Described) (x : Item) → IsDescribed all x → slice_get (map item_of all) (number_among all x) ≡ Some x
number-there all x h = by-first (first-there (λ d. is_same_item x d.item) all (by-description (from_map item_of all x h)))
  where
    by-description : (d : Described) × IsOneOf d all × (x ≡ d.item) → list_any (λ e. is_same_item x e.item) all ≡ true
    by-description (d, i, is) = in-any (λ e. is_same_item x e.item) d all i (subst (λ z. is_same_item x z ≡ true) is (item_self x))

    by-first : (d : Described) × (slice_get all (number_among all x) ≡ Some d) × (is_same_item x d.item ≡ true) → slice_get (map item_of all) (number_among all x) ≡ Some x
    by-first (d, at, s) = slice_get-map item_of all (number_among all x) ∙ ap (option_map item_of) at ∙ ap Some (sym (one_item x d.item s))

-- the description of what stands at a place
pub description-at : (all : List Described) (n : ℕ) (x : Item) → slice_get (map item_of all) n ≡ Some x → (d : Described) × (slice_get all n ≡ Some d) × (d.item ≡ x)
description-at [] n x e = absurd (none-some x e)
description-at (d ∷ ds) zero x e = (d, refl, same_Some d.item x e)
description-at (d ∷ ds) (suc n) x e = description-at ds n x e

-- the new number of what stands at a place is that of its image
image-there : (all items : List Described) (copy : Item → Item) (n z : ℕ) (x : Item) → slice_get (map item_of items) n ≡ Some x → slice_index_or (image_numbers all copy items) n z ≡ number_among all (copy x)
image-there all [] copy n z x e = absurd (none-some x e)
image-there all (d ∷ ds) copy zero z x e = ap (λ y. number_among all (copy y)) (same_Some d.item x e)
image-there all (d ∷ ds) copy (suc n) z x e = image-there all ds copy n z x e

pub image-number : (all items : List Described) (copy : Item → Item) (n : ℕ) (x : Item) → slice_get (map item_of items) n ≡ Some x → new_number (image_numbers all copy items) n ≡ number_among all (copy x)
image-number all items copy n x e = image-there all items copy n n x e

-- an item of descriptions each once has one place
pub one-place : (p : Described → Bool) (all : List Described) (n : ℕ) (x : Item) → slice_get (map item_of (filter p (firsts all))) n ≡ Some x → n ≡ number_among (filter p (firsts all)) x
one-place p all n x e = by-descriptions (description-at these n x e) (description-at these (number_among these x) x (number-there these x (one_slice_get (map item_of these) n x e)))
  where
    these : List Described
    these = filter p (firsts all)

    alike : (y z : Item) → y ≡ z → is_same_item y z ≡ true
    alike y z e = subst (λ w. is_same_item y w ≡ true) e (item_self y)

    by-descriptions : (d : Described) × (slice_get these n ≡ Some d) × (d.item ≡ x) → (d : Described) × (slice_get these (number_among these x) ≡ Some d) × (d.item ≡ x) → n ≡ number_among these x
    by-descriptions (d, at, is) (e, there, same) =
        unlike-one is_same_described these n (number_among these x) d e (no-two-kept (λ y z. is_same_described z y ≡ true) p (firsts all) (once-unlike is_same_described all)) at there
        (alike d.item e.item (is ∙ sym same)) (alike e.item d.item (same ∙ sym is))
