-- The sorts and operations of a type by their numbers among all, and what becomes of the numbers.
use Rattle.std.proofs.Common.{ℕ, zero, suc, ◌≡◌, ◌∙◌, ◌<◌, ◌+◌, ◌-◌, inl, inr, refl, sym, ap, subst, List, [], ◌∷◌, length, map, take, Bool, true, false, not, cond, Some, arith}
use Rattle.std.specs.Prelude.{option_map, if◌then◌else◌}
use Rattle.std.specs.List.{enumerate_from, filter, flat_map, list_any, slice_get, slice_index_or}
use Rattle.std.specs.Str.{bytes_eq}
use Rattle.std.specs.Cmp.Lexicographic.{same_text}
use Rattle.std.proofs.lemmas.Bool.{not-true}
use Rattle.std.proofs.lemmas.Cmp.{nat_list_eq_equiv}
use Rattle.std.proofs.lemmas.List.{get_or-map, length-map, take-map}
use Rattle.std.proofs.lemmas.Option.{none-some, same_Some, slice_get-map}
use Rattle.lotos_ast.specs.declared.types.TypeDef.{TypeDef}
use Rattle.spec_core.specs.Lists.{IsOneOf}
use Rattle.spec_core.specs.Sorts.{OnSome, IsDeclaredSort}
use Rattle.spec_core.proofs.Members.{from_filter, one_slice_get, from_map}
use Rattle.sort_overloads.specs.Readings.{Context}
use Rattle.sort_overloads.proofs.Loops.{map-through}
use Rattle.type_contents.specs.Images.{Renaming, sort_image, kept_renaming, image}
use Rattle.type_contents.specs.Items.{Item, Described, item_of, is_in, is_sort}
use Rattle.type_contents.specs.Numbering.{all_items, all_sorts, all_operations, brought, number_among}
use Rattle.type_contents.specs.Own.{sort_item}
use Rattle.type_images.specs.Images.{new_number}
use Rattle.type_equation_copies.specs.Copies.{image_in, image_numbers}
use Rattle.type_data.specs.Data.{sort_numbers, all_but_last, last_number}
use Rattle.static_presentation.specs.Moved.{number_at}
use Rattle.static_presentation.specs.Signatures.{had_of, is_had, numbers_had, sort_number, operation_over, type_context}
use Rattle.static_laws.proofs.Closed.{IsUnrefused, closed, image-in-sorts, image-in-sort}
use Rattle.static_laws.proofs.Covered.{items_at, sort-covered, operation-covered}
use Rattle.static_laws.proofs.Items.{IsDescribed, is-among, among-is, in-passing, number-there, description-at, image-number, one-place}
use Rattle.static_laws.proofs.Membership.{in-any, first-there}
use Rattle.static_laws.proofs.Read.{read_theory}
use Rattle.static_laws.proofs.Typed.{IsOperationOf}
use Rattle.static_laws.proofs.WellMade.{NamesOperations, all-made, kept-names, operation-sorts, sort-is-name, image-of-operation}

-- the number among all sorts is that of a sort that these items have
pub record IsSortIn (types : List TypeDef) (items : List Item) (n : ℕ) : Type 0 where
  pub name : List ℕ
  pub at : slice_get (map item_of (all_sorts types)) n ≡ Some (sort_item name)
  pub has : IsOneOf (sort_item name) items

-- the number among all operations is that of an operation that these items have, over these sorts
pub record IsOperationIn (types : List TypeDef) (items : List Item) (f : ℕ) (args : List ℕ) (sort : ℕ) : Type 0 where
  pub item : Item
  pub at : slice_get (map item_of (all_operations types)) f ≡ Some item
  pub has : IsOneOf item items
  pub arguments : args ≡ all_but_last (sort_numbers (all_sorts types) item.sorts)
  pub result : sort ≡ last_number (sort_numbers (all_sorts types) item.sorts)

-- what the equations of a type may speak of
abbrev pub own_context : List TypeDef → ℕ → Context
own_context types k = type_context (all_sorts types) (all_operations types) (items_at types k)

-- lists of numbers under other numbers

pub numbers-changed : (change : ℕ → ℕ) (old new : List ℕ → ℕ) (names : List (List ℕ)) → ((s : List ℕ) → IsOneOf s names → change (old s) ≡ new s) → map change (map old names) ≡ map new names
numbers-changed change old new [] h = refl
numbers-changed change old new (s ∷ ss) h = ap (λ n. n ∷ map change (map old ss)) (h s (inl refl)) ∙ ap (λ ns. new s ∷ ns) (numbers-changed change old new ss (λ t i. h t (inr i)))

pub arguments-changed : (change : ℕ → ℕ) (xs ys : List ℕ) → map change xs ≡ ys → map change (all_but_last xs) ≡ all_but_last ys
arguments-changed change xs ys e = sym (take-map change (length xs - 1) xs) ∙ ap (λ n. take (n - 1) (map change xs)) (sym (length-map xs change)) ∙ ap all_but_last e

pub result-changed : (change : ℕ → ℕ) (xs ys : List ℕ) → 0 < length xs → map change xs ≡ ys → change (last_number xs) ≡ last_number ys
result-changed change xs ys some e =
    sym (get_or-map change xs (length xs - 1) 0 0 (omega (arith, some))) ∙ ap (λ n. slice_index_or (map change xs) (n - 1) 0) (sym (length-map xs change)) ∙ ap last_number e

-- those of a list that pass a test, with their numbers

abbrev IsNumberedAt : (Described → Bool) → List Described → ℕ → Described → Type 0
IsNumberedAt p all n d = (i : ℕ) × (n ≡ i) × (slice_get all i ≡ Some d) × (p d ≡ true)

passing-at : (p : Described → Bool) (start : ℕ) (all : List Described) (k : ℕ) (d : Described) → slice_get (filter p all) k ≡ Some d →
    (i : ℕ) × (slice_index_or (map (λ (e : ℕ × Described). e.0) (filter (λ e. p e.1) (enumerate_from start all))) k 0 ≡ start + i) × (slice_get all i ≡ Some d) × (p d ≡ true)
passing-at p start [] k d e = absurd (none-some d e)
passing-at p start (x ∷ xs) k d e = by-test (p x) refl k e (λ j h. passing-at p (start + 1) xs j d h)
  where
    rest : List (ℕ × Described)
    rest = filter (λ (e : ℕ × Described). p e.1) (enumerate_from (start + 1) xs)

    later : (j : ℕ) → (i : ℕ) × (slice_index_or (map (λ (e : ℕ × Described). e.0) rest) j 0 ≡ (start + 1) + i) × (slice_get xs i ≡ Some d) × (p d ≡ true) →
        (i : ℕ) × (slice_index_or (map (λ (e : ℕ × Described). e.0) rest) j 0 ≡ start + i) × (slice_get (x ∷ xs) i ≡ Some d) × (p d ≡ true)
    later j (i, is, at, passes) = (suc i, omega (arith, is), at, passes)

    by-test : (b : Bool) → p x ≡ b → (j : ℕ) → slice_get (cond b (x ∷ filter p xs) (filter p xs)) j ≡ Some d →
        ((j : ℕ) → slice_get (filter p xs) j ≡ Some d → (i : ℕ) × (slice_index_or (map (λ (e : ℕ × Described). e.0) rest) j 0 ≡ (start + 1) + i) × (slice_get xs i ≡ Some d) × (p d ≡ true)) →
        (i : ℕ) × (slice_index_or (map (λ (e : ℕ × Described). e.0) (cond b ((start, x) ∷ rest) rest)) j 0 ≡ start + i) × (slice_get (x ∷ xs) i ≡ Some d) × (p d ≡ true)
    by-test true passes zero h next = let s : x ≡ d = same_Some x d h in (zero, omega arith, ap Some s, ap p (sym s) ∙ passes)
    by-test true passes (suc j) h next = later j (next j h)
    by-test false passes j h next = later j (next j h)

number-passing : (items : List Item) (all : List Described) (k : ℕ) (d : Described) → slice_get (had_of items all) k ≡ Some d → IsNumberedAt (is_had items) all (number_at (numbers_had items all) k) d
number-passing items all k d h = by-number (passing-at (is_had items) 0 all k d h)
  where
    by-number : (i : ℕ) × (number_at (numbers_had items all) k ≡ 0 + i) × (slice_get all i ≡ Some d) × (is_had items d ≡ true) → IsNumberedAt (is_had items) all (number_at (numbers_had items all) k) d
    by-number (i, is, at, has) = (i, omega (arith, is), at, has)

mapped-there : {A B : Type 0} (f : A → B) (P : B → Type 0) (xs : List A) (k : ℕ) → OnSome (slice_get (map f xs) k) P → (x : A) × (slice_get xs k ≡ Some x) × P (f x)
mapped-there f P [] k h = absurd h
mapped-there f P (x ∷ xs) zero h = (x, refl, h)
mapped-there f P (x ∷ xs) (suc k) h = mapped-there f P xs k h

some-at : {A B : Type 0} (f : A → B) (xs : List A) (k : ℕ) → k < length (map f xs) → (x : A) × (slice_get xs k ≡ Some x)
some-at f [] k h = absurd (omega (arith, h))
some-at f (x ∷ xs) zero h = (x, refl)
some-at f (x ∷ xs) (suc k) h = some-at f xs k (omega (arith, h))

placed-item : (all : List Described) (i : ℕ) (d : Described) → slice_get all i ≡ Some d → slice_get (map item_of all) i ≡ Some d.item
placed-item all i d at = slice_get-map item_of all i ∙ ap (option_map item_of) at

module _ (types : List TypeDef) (h : IsUnrefused types) where
  all-sort : (d : Described) → IsOneOf d (all_sorts types) → d.item ≡ sort_item d.item.name
  all-sort d i =
      let k : IsOneOf d (all_items types) × (is_sort d.item ≡ true) = from_filter (λ e. is_sort e.item) d (all_items types) i in
      sort-is-name d.item (all-made types d k.0) k.1

  pub is-operation : (f : ℕ) (x : Item) → slice_get (map item_of (all_operations types)) f ≡ Some x → (is_sort x ≡ false) × (0 < length x.sorts)
  is-operation f x at = by-description (description-at (all_operations types) f x at)
    where
      by-description : (d : Described) × (slice_get (all_operations types) f ≡ Some d) × (d.item ≡ x) → (is_sort x ≡ false) × (0 < length x.sorts)
      by-description (d, there, is) =
          let k : IsOneOf d (all_items types) × (not (is_sort d.item) ≡ true) = from_filter (λ e. not (is_sort e.item)) d (all_items types) (one_slice_get (all_operations types) f d there) in
          let n : is_sort d.item ≡ false = not-true (is_sort d.item) k.1 in
          (sym (ap is_sort is) ∙ n, subst (λ (z : Item). 0 < length z.sorts) is (operation-sorts d.item (all-made types d k.0) n))

  sort-place : (k : ℕ) (name : List ℕ) → IsOneOf (sort_item name) (items_at types k) → IsDescribed (all_sorts types) (sort_item name)
  sort-place k name i = sort-covered types h.acyclic h.settled k (sort_item name) i refl

  -- In a copy

  module _ (k s : ℕ) (replaced : List Item) (renaming : Renaming) (names : NamesOperations renaming.operations)
      (images : (y : Item) → IsOneOf y (items_at types s) → IsOneOf (image_in replaced renaming y) (items_at types k)) where
    abbrev pub new_sort_number : ℕ → ℕ
    new_sort_number = new_number (image_numbers (all_sorts types) (image_in replaced renaming) (all_sorts types))

    abbrev pub new_operation_number : ℕ → ℕ
    new_operation_number = new_number (image_numbers (all_operations types) (image_in replaced renaming) (all_operations types))

    pub copied-sort-in : (n : ℕ) → IsSortIn types (items_at types s) n → IsSortIn types (items_at types k) (new_sort_number n)
    copied-sort-in n i = record {
      name = sort_image renaming.sorts i.name;
      at = ap (slice_get (map item_of (all_sorts types)))
          (image-number (all_sorts types) (all_sorts types) (image_in replaced renaming) n (sort_item i.name) i.at ∙ ap (number_among (all_sorts types)) (image-in-sort types h replaced renaming i.name names))
          ∙ number-there (all_sorts types) (sort_item (sort_image renaming.sorts i.name)) (sort-place k (sort_image renaming.sorts i.name) has-image);
      has = has-image;
    }
      where
        has-image : IsOneOf (sort_item (sort_image renaming.sorts i.name)) (items_at types k)
        has-image = subst (λ z. IsOneOf z (items_at types k)) (image-in-sort types h replaced renaming i.name names) (images (sort_item i.name) i.has)

    -- the number of a sort's image
    copied-number : (name : List ℕ) → IsOneOf (sort_item name) (items_at types s) → new_sort_number (number_among (all_sorts types) (sort_item name)) ≡ number_among (all_sorts types) (sort_item (sort_image renaming.sorts name))
    copied-number name i =
        image-number (all_sorts types) (all_sorts types) (image_in replaced renaming) (number_among (all_sorts types) (sort_item name)) (sort_item name) (number-there (all_sorts types) (sort_item name) (sort-place s name i))
        ∙ ap (number_among (all_sorts types)) (image-in-sort types h replaced renaming name names)

    copied-numbers : (x : Item) → IsOneOf x (items_at types s) → map new_sort_number (sort_numbers (all_sorts types) x.sorts) ≡ sort_numbers (all_sorts types) (image_in replaced renaming x).sorts
    copied-numbers x i =
        numbers-changed new_sort_number (λ n. number_among (all_sorts types) (sort_item n)) (λ n. number_among (all_sorts types) (sort_item (sort_image renaming.sorts n))) x.sorts
        (λ n j. copied-number n (closed types h s x i n j))
        ∙ sym (map-through (λ n. number_among (all_sorts types) (sort_item n)) (sort_image renaming.sorts) x.sorts)
        ∙ ap (sort_numbers (all_sorts types)) (sym (image-in-sorts types h replaced renaming x))

    image-operation : (x : Item) → is_sort x ≡ false → is_sort (image_in replaced renaming x) ≡ false
    image-operation x e = by-test (is_in replaced x)
      where
        by-test : (b : Bool) → is_sort (if b then image renaming x else image (kept_renaming replaced renaming x) x) ≡ false
        by-test true = image-of-operation renaming x names e
        by-test false = image-of-operation (kept_renaming replaced renaming x) x (kept-names replaced renaming x names) e

    pub copied-operation-in : (f : ℕ) (args : List ℕ) (sort : ℕ) → IsOperationIn types (items_at types s) f args sort → IsOperationIn types (items_at types k) (new_operation_number f) (map new_sort_number args) (new_sort_number sort)
    copied-operation-in f args sort i = record {
      item = image_in replaced renaming i.item;
      at = ap (slice_get (map item_of (all_operations types))) (image-number (all_operations types) (all_operations types) (image_in replaced renaming) f i.item i.at)
          ∙ number-there (all_operations types) (image_in replaced renaming i.item)
          (operation-covered types h.acyclic h.settled k (image_in replaced renaming i.item) (images i.item i.has) (image-operation i.item (is-operation f i.item i.at).0));
      has = images i.item i.has;
      arguments = ap (map new_sort_number) i.arguments ∙ arguments-changed new_sort_number (sort_numbers (all_sorts types) i.item.sorts) (sort_numbers (all_sorts types) (image_in replaced renaming i.item).sorts) (copied-numbers i.item i.has);
      result = ap new_sort_number i.result ∙ result-changed new_sort_number (sort_numbers (all_sorts types) i.item.sorts) (sort_numbers (all_sorts types) (image_in replaced renaming i.item).sorts)
          (omega (arith, (is-operation f i.item i.at).1, length-map i.item.sorts (λ n. number_among (all_sorts types) (sort_item n)))) (copied-numbers i.item i.has);
    }

  -- In the order of a type's own

  module _ (k : ℕ) where
    abbrev pub had_sorts : List Described
    had_sorts = had_of (items_at types k) (all_sorts types)

    abbrev pub sort_moved : ℕ → ℕ
    sort_moved = number_at (numbers_had (items_at types k) (all_sorts types))

    abbrev pub operation_moved : ℕ → ℕ
    operation_moved = number_at (numbers_had (items_at types k) (all_operations types))

    pub moved-sort-in : (n : ℕ) → IsDeclaredSort (read_theory (own_context types k)) n → IsSortIn types (items_at types k) (sort_moved n)
    moved-sort-in n i = by-description (some-at (λ d. d.spelled) had_sorts n i)
      where
        by-number : (d : Described) → IsNumberedAt (is_had (items_at types k)) (all_sorts types) (sort_moved n) d → IsSortIn types (items_at types k) (sort_moved n)
        by-number d (j, is, at, has) = record {
          name = d.item.name;
          at = ap (slice_get (map item_of (all_sorts types))) is ∙ placed-item (all_sorts types) j d at ∙ ap Some (all-sort d (one_slice_get (all_sorts types) j d at));
          has = subst (λ z. IsOneOf z (items_at types k)) (all-sort d (one_slice_get (all_sorts types) j d at)) (is-among (items_at types k) d.item has);
        }

        by-description : (d : Described) × (slice_get had_sorts n ≡ Some d) → IsSortIn types (items_at types k) (sort_moved n)
        by-description (d, at) = by-number d (number-passing (items_at types k) (all_sorts types) n d at)

    -- the number of a sort by its name
    moved-number : (name : List ℕ) → IsOneOf (sort_item name) (items_at types k) → sort_moved (sort_number had_sorts name) ≡ number_among (all_sorts types) (sort_item name)
    moved-number name i = by-place (first-there (λ d. bytes_eq d.item.name name) had_sorts (named (from_map item_of had_sorts (sort_item name) had)))
      where
        had : IsDescribed had_sorts (sort_item name)
        had = in-passing (is_had (items_at types k)) (all_sorts types) (sort_item name) (sort-place k name i) (λ d is. ap (is_in (items_at types k)) is ∙ among-is (items_at types k) (sort_item name) i)

        named : (d : Described) × IsOneOf d had_sorts × (sort_item name ≡ d.item) → list_any (λ d. bytes_eq d.item.name name) had_sorts ≡ true
        named (d, j, is) = in-any (λ (e : Described). bytes_eq e.item.name name) d had_sorts j (subst (λ (z : Item). bytes_eq z.name name ≡ true) is (nat_list_eq_equiv.refl name))

        by-number : (d : Described) → bytes_eq d.item.name name ≡ true → IsNumberedAt (is_had (items_at types k)) (all_sorts types) (sort_moved (sort_number had_sorts name)) d →
            sort_moved (sort_number had_sorts name) ≡ number_among (all_sorts types) (sort_item name)
        by-number d same (j, is, at, has) =
            is ∙ one-place (λ e. is_sort e.item) (flat_map (λ all. all) (brought types)) j (sort_item name)
            (placed-item (all_sorts types) j d at ∙ ap Some (all-sort d (one_slice_get (all_sorts types) j d at) ∙ ap sort_item (same_text d.item.name name (sym same))))

        by-place : (d : Described) × (slice_get had_sorts (sort_number had_sorts name) ≡ Some d) × (bytes_eq d.item.name name ≡ true) → sort_moved (sort_number had_sorts name) ≡ number_among (all_sorts types) (sort_item name)
        by-place (d, at, same) = by-number d same (number-passing (items_at types k) (all_sorts types) (sort_number had_sorts name) d at)

    pub moved-operation-in : (f : ℕ) (args : List ℕ) (sort : ℕ) → IsOperationOf (read_theory (own_context types k)) f args sort → IsOperationIn types (items_at types k) (operation_moved f) (map sort_moved args) (sort_moved sort)
    moved-operation-in f args sort i = by-description (mapped-there (operation_over had_sorts) (λ d. (d.result ≡ sort) × (d.args ≡ args)) (had_of (items_at types k) (all_operations types)) f i)
      where
        by-number : (d : Described) → (operation_over had_sorts d).result ≡ sort → (operation_over had_sorts d).args ≡ args → IsNumberedAt (is_had (items_at types k)) (all_operations types) (operation_moved f) d →
            IsOperationIn types (items_at types k) (operation_moved f) (map sort_moved args) (sort_moved sort)
        by-number d result arguments (j, is, at, has) =
            let item_at : slice_get (map item_of (all_operations types)) j ≡ Some d.item = placed-item (all_operations types) j d at in
            let had : IsOneOf d.item (items_at types k) = is-among (items_at types k) d.item has in
            let moved : map sort_moved (map (sort_number had_sorts) d.item.sorts) ≡ sort_numbers (all_sorts types) d.item.sorts =
            numbers-changed sort_moved (sort_number had_sorts) (λ n. number_among (all_sorts types) (sort_item n)) d.item.sorts (λ n m. moved-number n (closed types h k d.item had n m)) in
            record {
              item = d.item;
              at = ap (slice_get (map item_of (all_operations types))) is ∙ item_at;
              has = had;
              arguments = ap (map sort_moved) (sym arguments) ∙ arguments-changed sort_moved (map (sort_number had_sorts) d.item.sorts) (sort_numbers (all_sorts types) d.item.sorts) moved;
              result = ap sort_moved (sym result) ∙ result-changed sort_moved (map (sort_number had_sorts) d.item.sorts) (sort_numbers (all_sorts types) d.item.sorts)
                  (omega (arith, (is-operation j d.item item_at).1, length-map d.item.sorts (sort_number had_sorts))) moved;
            }

        by-description : (d : Described) × (slice_get (had_of (items_at types k) (all_operations types)) f ≡ Some d) × (((operation_over had_sorts d).result ≡ sort) × ((operation_over had_sorts d).args ≡ args)) →
            IsOperationIn types (items_at types k) (operation_moved f) (map sort_moved args) (sort_moved sort)
        by-description (d, at, (result, arguments)) = by-number d result arguments (number-passing (items_at types k) (all_operations types) f d at)
