-- The numbers of what a type has among all, put into a set one by one, and what stands at them.
use Rattle.std.proofs.Common.{ℕ, ◌≡◌, ◌∙◌, refl, sym, ap, subst, ◌<◌, ◌≤◌, ◌+◌, arith, Bool, true, false, not, cond, ◌||◌, List, [], ◌∷◌, ◌++◌, length, map, take, get_or, nat_lt, Option, None, Some, ◌⊎◌, inl, inr, if◌then◌else◌}
use Rattle.std.specs.Prelude.{option_map}
use Rattle.std.specs.BTreeSet.{insert_key}
use Rattle.std.specs.List.{AllByRecursion, IsDistinct, enumerate_from, filter, filter_map, flat_map, fold, cons_option, list_any, position_or_len, slice_get}
use Rattle.std.specs.Ordering.{match_ordering, nat_cmp}
use Rattle.std.proofs.lemmas.Bool.Decides.{nat_tests}
use Rattle.std.proofs.lemmas.Bool.{cases_lt}
use Rattle.std.proofs.lemmas.List.{append_assoc, get_or_default, map-append}
use Rattle.std.proofs.lemmas.Option.{slice_get-map, slice_get_past}
use Rattle.spec_core.proofs.Lists.{slice_get_next, take_next}
use Rattle.std.proofs.lemmas.List.Folds.{list_any-append}
use Rattle.type_contents.specs.Items.{Item, Described, is_same_item, is_same_described, is_sort, is_in, firsts}
use Rattle.type_contents.specs.Lists.{numbers_of, with_one}
use Rattle.type_contents.specs.Numbering.{brought}
use Rattle.type_contents.specs.Views.{described_of, items_at, no_item}
use Rattle.type_contents.specs.declared.flat.FlatData.{FlatData}
use Rattle.lotos_ast.specs.declared.types.TypeDef.{TypeDef}
use Rattle.flattening.specs.Flattens.{Flattens}
use Rattle.type_contents.proofs.Keys.{one_item}
use Rattle.type_contents.proofs.Unions.{item_symm}
use Rattle.type_equation_copies.proofs.Named.{position_through}
use Rattle.static_presentation.specs.Signatures.{had_of, numbers_had, stands_at, context_over, context_at, type_context}
use Rattle.static_presentation.proofs.Lists.{numbers_by}

-- a number is put before a greater one, on an equal one, behind a less one

below : {X : Type 0} (n m : ℕ) (a b c : X) → n < m → match_ordering (nat_cmp n m) a b c ≡ a
below n m a b c h = grind (arith, nat_tests, h)

equal : {X : Type 0} (n : ℕ) (a b c : X) → match_ordering (nat_cmp n n) a b c ≡ b
equal n a b c = grind (arith, nat_tests)

above : {X : Type 0} (n m : ℕ) (a b c : X) → m < n → match_ordering (nat_cmp n m) a b c ≡ c
above n m a b c h = grind (arith, nat_tests, h)

-- one element further
one : {A : Type 0} (p : A → Bool) (f : ℕ) (x : A) (xs : List A) → numbers_by p f (x ∷ xs) ≡ (if p x then f ∷ numbers_by p (f + 1) xs else numbers_by p (f + 1) xs)
one {A} p f x xs = by (p x)
  where
    by : (b : Bool) → map (λ (e : ℕ × A). e.0) (if b then (f, x) ∷ filter (λ e. p e.1) (enumerate_from (f + 1) xs) else filter (λ e. p e.1) (enumerate_from (f + 1) xs))
        ≡ (if b then f ∷ numbers_by p (f + 1) xs else numbers_by p (f + 1) xs)
    by true = refl
    by false = refl

-- tests that agree
alike : {A : Type 0} (p q : A → Bool) (f : ℕ) (xs : List A) → AllByRecursion (λ x. p x ≡ q x) xs → numbers_by p f xs ≡ numbers_by q f xs
alike p q f [] h = refl
alike p q f (x ∷ xs) h =
    one p f x xs ∙ ap (λ b. if b then f ∷ numbers_by p (f + 1) xs else numbers_by p (f + 1) xs) h.0
    ∙ ap (λ ns. if q x then f ∷ ns else ns) (alike p q (f + 1) xs h.1) ∙ sym (one q f x xs)

or_false : (b : Bool) → b ≡ (b || false)
or_false true = refl
or_false false = refl

or_true : (b : Bool) → true ≡ (b || true)
or_true true = refl
or_true false = refl

none_more : {A : Type 0} (p q : A → Bool) (xs : List A) → AllByRecursion (λ x. q x ≡ false) xs → AllByRecursion (λ x. p x ≡ (p x || q x)) xs
none_more p q [] h = tt
none_more p q (x ∷ xs) h = (or_false (p x) ∙ ap (λ z. p x || z) (sym h.0), none_more p q xs h.1)

from_on : {A : Type 0} (p : A → Bool) (f g : ℕ) (xs : List A) → f ≤ g → AllByRecursion (λ n. f ≤ n) (numbers_by p g xs)
from_on p f g [] le = tt
from_on p f g (x ∷ xs) le = subst (AllByRecursion (λ n. f ≤ n)) (sym (one p g x xs)) (by (p x) (from_on p f (g + 1) xs (omega (arith, le))))
  where
    by : (b : Bool) → AllByRecursion (λ n. f ≤ n) (numbers_by p (g + 1) xs) → AllByRecursion (λ n. f ≤ n) (if b then g ∷ numbers_by p (g + 1) xs else numbers_by p (g + 1) xs)
    by true h = (le, h)
    by false h = h

put_first : (f : ℕ) (ns : List ℕ) → AllByRecursion (λ n. f + 1 ≤ n) ns → insert_key nat_cmp ns f ≡ f ∷ ns
put_first f [] h = refl
put_first f (n ∷ ns) h = below f n (f ∷ n ∷ ns) (n ∷ ns) (n ∷ insert_key nat_cmp ns f) (omega (arith, h.0))

-- where an element passes a test, no later one does
abbrev Lone : {A : Type 0} → (A → Bool) → List A → Type 0
Lone q [] = Unit {0}
Lone q (x ∷ xs) = (q x ≡ true → AllByRecursion (λ y. q y ≡ false) xs) × Lone q xs

-- what is to be shown of such a list, where it is known whether its first element passes the other test
abbrev Puts : {A : Type 0} → (A → Bool) → (A → Bool) → ℕ → A → List A → Bool → Type 0
Puts p q f x xs b = insert_key nat_cmp (if p x then f ∷ numbers_by p (f + 1) xs else numbers_by p (f + 1) xs) (f + cond (not b) (1 + position_or_len q xs) 0)
    ≡ (if p x || b then f ∷ numbers_by (λ y. p y || q y) (f + 1) xs else numbers_by (λ y. p y || q y) (f + 1) xs)

put_here : (f : ℕ) (rest : List ℕ) (b : Bool) → AllByRecursion (λ n. f + 1 ≤ n) rest → insert_key nat_cmp (if b then f ∷ rest else rest) f ≡ f ∷ rest
put_here f rest true h = equal f (f ∷ f ∷ rest) (f ∷ rest) (f ∷ insert_key nat_cmp rest f)
put_here f rest false h = put_first f rest h

put_later : (f n : ℕ) (rest more : List ℕ) (b : Bool) → f < n → insert_key nat_cmp rest n ≡ more
    → insert_key nat_cmp (if b then f ∷ rest else rest) n ≡ (if b || false then f ∷ more else more)
put_later f n rest more true w h = above n f (n ∷ f ∷ rest) (f ∷ rest) (f ∷ insert_key nat_cmp rest n) w ∙ ap (λ ns. f ∷ ns) h
put_later f n rest more false w h = h

-- the number of the one element that passes another test is put to those that pass a test
put : {A : Type 0} (p q : A → Bool) (f : ℕ) (xs : List A) → position_or_len q xs < length xs → Lone q xs
    → insert_key nat_cmp (numbers_by p f xs) (f + position_or_len q xs) ≡ numbers_by (λ x. p x || q x) f xs
put p q f [] w l = absurd (omega (arith, w))
put {A} p q f (x ∷ xs) w l =
    ap (λ ns. insert_key nat_cmp ns (f + position_or_len q (x ∷ xs))) (one p f x xs) ∙ by_test (λ u. put p q (f + 1) xs u l.1) (q x) refl ∙ sym (one (λ y. p y || q y) f x xs)
  where
    by_test : (position_or_len q xs < length xs → insert_key nat_cmp (numbers_by p (f + 1) xs) ((f + 1) + position_or_len q xs) ≡ numbers_by (λ y. p y || q y) (f + 1) xs)
        → (b : Bool) → q x ≡ b → Puts p q f x xs (q x)
    by_test h true e =
        let k : f + 0 ≡ f = omega arith in
        subst (Puts p q f x xs) (sym e) (ap (insert_key nat_cmp (if p x then f ∷ numbers_by p (f + 1) xs else numbers_by p (f + 1) xs)) k
        ∙ put_here f (numbers_by p (f + 1) xs) (p x) (from_on p (f + 1) (f + 1) xs (omega arith))
        ∙ ap (λ ns. f ∷ ns) (alike p (λ y. p y || q y) (f + 1) xs (none_more p q xs (l.0 e)))
        ∙ ap (λ b. if b then f ∷ numbers_by (λ y. p y || q y) (f + 1) xs else numbers_by (λ y. p y || q y) (f + 1) xs) (or_true (p x)))
    by_test h false e =
        let k : f + (1 + position_or_len q xs) ≡ (f + 1) + position_or_len q xs = omega arith in
        let v : cond (not false) (1 + position_or_len q xs) 0 < length (x ∷ xs) = subst (λ b. cond (not b) (1 + position_or_len q xs) 0 < length (x ∷ xs)) e w in
        let u : position_or_len q xs < length xs = omega (arith, v) in
        subst (Puts p q f x xs) (sym e) (put_later f (f + (1 + position_or_len q xs)) (numbers_by p (f + 1) xs) (numbers_by (λ y. p y || q y) (f + 1) xs) (p x) (omega arith)
        (ap (insert_key nat_cmp (numbers_by p (f + 1) xs)) k ∙ h u))

-- no element passes a test
none_at : {A : Type 0} (q : A → Bool) (xs : List A) → length xs ≤ position_or_len q xs → AllByRecursion (λ x. q x ≡ false) xs
none_at q [] past = tt
none_at {A} q (x ∷ xs) past = by_test (none_at q xs) (q x) refl
  where
    by_test : (length xs ≤ position_or_len q xs → AllByRecursion (λ y. q y ≡ false) xs) → (b : Bool) → q x ≡ b → AllByRecursion (λ y. q y ≡ false) (x ∷ xs)
    by_test h true e = let v : length (x ∷ xs) ≤ 0 = subst (λ b. length (x ∷ xs) ≤ cond (not b) (1 + position_or_len q xs) 0) e past in absurd (omega (arith, v))
    by_test h false e =
        let v : length (x ∷ xs) ≤ 1 + position_or_len q xs = subst (λ b. length (x ∷ xs) ≤ cond (not b) (1 + position_or_len q xs) 0) e past in
        let u : length xs ≤ position_or_len q xs = omega (arith, v) in
        (e, h u)

-- items are described once each

others : (x : Item) (d : Item) (ds : List Described) → is_same_item x d ≡ true → AllByRecursion (λ y. is_same_item d y ≡ false) (map (λ e. e.item) ds)
    → AllByRecursion (λ e. is_same_item x e.item ≡ false) ds
others x d [] same h = tt
others x d (e ∷ es) same h = (ap (λ z. is_same_item z e.item) (one_item x d same) ∙ h.0, others x d es same h.1)

lone : (x : Item) (ds : List Described) → IsDistinct is_same_item (map (λ e. e.item) ds) → Lone (λ e. is_same_item x e.item) ds
unfolding IsDistinct
lone x [] h = tt
lone x (d ∷ ds) h = (λ same. others x d.item ds same h.0, lone x ds h.1)

last_in : (items : List Item) (x : Item) (ds : List Described) → AllByRecursion (λ d. (is_in items d.item || is_same_item x d.item) ≡ is_in (items ++ x ∷ []) d.item) ds
last_in items x [] = tt
last_in items x (d ∷ ds) = (
  ap (λ z. is_in items d.item || z) (item_symm x d.item ∙ or_false (is_same_item d.item x)) ∙ sym (list_any-append (is_same_item d.item) items (x ∷ [])),
  last_in items x ds,
)

-- one more item of a type, which has a number among all
pub put_number : (items : List Item) (x : Item) (all : List Described) (n : ℕ) → IsDistinct is_same_item (map (λ d. d.item) all)
    → n ≡ position_or_len (λ d. is_same_item x d.item) all → n < length all → insert_key nat_cmp (numbers_had items all) n ≡ numbers_had (items ++ x ∷ []) all
put_number items x all n once at within =
    let k : n ≡ 0 + position_or_len (λ d. is_same_item x d.item) all = omega (arith, at) in
    ap (insert_key nat_cmp (numbers_had items all)) k
    ∙ put (λ d. is_in items d.item) (λ d. is_same_item x d.item) 0 all (omega (arith, at, within)) (lone x all once)
    ∙ alike (λ d. is_in items d.item || is_same_item x d.item) (λ d. is_in (items ++ x ∷ []) d.item) 0 all (last_in items x all)

-- or has none
pub no_number : (items : List Item) (x : Item) (all : List Described) (n : ℕ) → n ≡ position_or_len (λ d. is_same_item x d.item) all → length all ≤ n
    → numbers_had items all ≡ numbers_had (items ++ x ∷ []) all
no_number items x all n at past =
    alike (λ d. is_in items d.item) (λ d. is_in items d.item || is_same_item x d.item) 0 all (none_more (λ d. is_in items d.item) (λ d. is_same_item x d.item) all (none_at (λ d. is_same_item x d.item) all (omega (arith, at, past))))
    ∙ alike (λ d. is_in items d.item || is_same_item x d.item) (λ d. is_in (items ++ x ∷ []) d.item) 0 all (last_in items x all)

none_in : (f : ℕ) (all : List Described) → [] ≡ numbers_by (λ d. is_in [] d.item) f all
none_in f [] = refl
none_in f (d ∷ ds) = none_in (f + 1) ds

-- a type that has nothing
pub nothing_had : (all : List Described) → [] ≡ numbers_had [] all
nothing_had all = none_in 0 all

-- what stands at the numbers of those that pass a test

stands : {A : Type 0} (pre : List A) (x : A) (xs : List A) → slice_get (pre ++ x ∷ xs) (length pre) ≡ Some x
stands [] x xs = refl
stands (y ∷ ys) x xs = stands ys x xs

longer : {A : Type 0} (pre : List A) (x : A) → length (pre ++ x ∷ []) ≡ length pre + 1
longer [] x = refl
longer (y ∷ ys) x = let h : length (ys ++ x ∷ []) ≡ length ys + 1 = longer ys x in omega (arith, h)

picked_from : {A : Type 0} (p : A → Bool) (pre xs : List A) → filter_map (λ n. slice_get (pre ++ xs) n) (numbers_by p (length pre) xs) ≡ filter p xs
picked_from p pre [] = refl
picked_from {A} p pre (x ∷ xs) = ap (filter_map (λ n. slice_get (pre ++ x ∷ xs) n)) (one p (length pre) x xs) ∙ by_test (p x) (picked_from p (pre ++ x ∷ []) xs)
  where
    rest : filter_map (λ n. slice_get ((pre ++ x ∷ []) ++ xs) n) (numbers_by p (length (pre ++ x ∷ [])) xs) ≡ filter p xs
        → filter_map (λ n. slice_get (pre ++ x ∷ xs) n) (numbers_by p (length pre + 1) xs) ≡ filter p xs
    rest h =
        ap (λ n. filter_map (λ k. slice_get (pre ++ x ∷ xs) k) (numbers_by p n xs)) (sym (longer pre x))
        ∙ ap (λ zs. filter_map (λ k. slice_get zs k) (numbers_by p (length (pre ++ x ∷ [])) xs)) (sym (append_assoc pre (x ∷ []) xs)) ∙ h

    by_test : (b : Bool) → filter_map (λ n. slice_get ((pre ++ x ∷ []) ++ xs) n) (numbers_by p (length (pre ++ x ∷ [])) xs) ≡ filter p xs
        → filter_map (λ n. slice_get (pre ++ x ∷ xs) n) (if b then length pre ∷ numbers_by p (length pre + 1) xs else numbers_by p (length pre + 1) xs)
        ≡ (if b then x ∷ filter p xs else filter p xs)
    by_test true h = ap (λ o. cons_option o (filter_map (λ n. slice_get (pre ++ x ∷ xs) n) (numbers_by p (length pre + 1) xs))) (stands pre x xs) ∙ ap (λ zs. x ∷ zs) (rest h)
    by_test false h = rest h

picked : {A : Type 0} (p : A → Bool) (xs : List A) → filter_map (λ n. slice_get xs n) (numbers_of p xs) ≡ filter p xs
picked p xs = picked_from p [] xs

-- what a type has stands at its numbers
pub had_at : (items : List Item) (all : List Described) → stands_at all (numbers_had items all) ≡ had_of items all
had_at items all = picked (λ d. is_in items d.item) all

-- what is described once each

both_false : (a b : Bool) → (a || b) ≡ false → (a ≡ false) × (b ≡ false)
both_false true b e = absurd (cc)
both_false false b e = (refl, e)

apart_at_end : (x : Item) (ds : List Described) (d : Described) → AllByRecursion (λ y. is_same_item x y ≡ false) (map (λ e. e.item) ds) → is_same_item x d.item ≡ false
    → AllByRecursion (λ y. is_same_item x y ≡ false) (map (λ e. e.item) (ds ++ d ∷ []))
apart_at_end x [] d h k = (k, tt)
apart_at_end x (e ∷ es) d h k = (h.0, apart_at_end x es d h.1 k)

once_more : (ds : List Described) (d : Described) → IsDistinct is_same_item (map (λ e. e.item) ds) → list_any (is_same_described d) ds ≡ false
    → IsDistinct is_same_item (map (λ e. e.item) (ds ++ d ∷ []))
unfolding IsDistinct
once_more [] d h k = (tt, tt)
once_more (e ∷ es) d h k =
    let parts : (is_same_described d e ≡ false) × (list_any (is_same_described d) es ≡ false) = both_false (is_same_described d e) (list_any (is_same_described d) es) k in
    (apart_at_end e.item es d h.0 (item_symm e.item d.item ∙ parts.0), once_more es d h.1 parts.1)

once_with : (ds : List Described) (d : Described) → IsDistinct is_same_item (map (λ e. e.item) ds) → IsDistinct is_same_item (map (λ e. e.item) (with_one is_same_described ds d))
once_with ds d h = by_test (list_any (is_same_described d) ds) refl
  where
    by_test : (b : Bool) → list_any (is_same_described d) ds ≡ b → IsDistinct is_same_item (map (λ e. e.item) (with_one is_same_described ds d))
    by_test true e = rw e h
    by_test false e = rw e (once_more ds d h e)

once_all : (ds es : List Described) → IsDistinct is_same_item (map (λ e. e.item) ds) → IsDistinct is_same_item (map (λ e. e.item) (fold (with_one is_same_described) ds es))
once_all ds [] h = h
once_all ds (e ∷ es) h = once_all (with_one is_same_described ds e) es (once_with ds e h)

apart_still : (x : Item) (p : Described → Bool) (ds : List Described) → AllByRecursion (λ y. is_same_item x y ≡ false) (map (λ e. e.item) ds)
    → AllByRecursion (λ y. is_same_item x y ≡ false) (map (λ e. e.item) (filter p ds))
apart_still x p [] h = tt
apart_still x p (d ∷ ds) h = by_test (p d) (apart_still x p ds h.1)
  where
    by_test : (b : Bool) → AllByRecursion (λ y. is_same_item x y ≡ false) (map (λ e. e.item) (filter p ds))
        → AllByRecursion (λ y. is_same_item x y ≡ false) (map (λ e. e.item) (if b then d ∷ filter p ds else filter p ds))
    by_test true k = (h.0, k)
    by_test false k = k

once_still : (p : Described → Bool) (ds : List Described) → IsDistinct is_same_item (map (λ e. e.item) ds) → IsDistinct is_same_item (map (λ e. e.item) (filter p ds))
unfolding IsDistinct
once_still p [] h = tt
once_still p (d ∷ ds) h = by_test (p d) (apart_still d.item p ds h.0) (once_still p ds h.1)
  where
    by_test : (b : Bool) → AllByRecursion (λ y. is_same_item d.item y ≡ false) (map (λ e. e.item) (filter p ds)) → IsDistinct is_same_item (map (λ e. e.item) (filter p ds))
        → IsDistinct is_same_item (map (λ e. e.item) (if b then d ∷ filter p ds else filter p ds))
    by_test true a k = (a, k)
    by_test false a k = k

no_items : IsDistinct is_same_item []
unfolding IsDistinct
no_items = tt

firsts_once : (p : Described → Bool) (all : List Described) → IsDistinct is_same_item (map (λ e. e.item) (filter p (firsts all)))
firsts_once p all = once_still p (firsts all) (once_all [] all no_items)

pub sorts_once : (types : List TypeDef) (flat : FlatData) → Flattens types flat → IsDistinct is_same_item (map (λ d. d.item) (map described_of flat.sorts.items))
sorts_once types flat h =
    subst (λ ds. IsDistinct is_same_item (map (λ d. d.item) ds)) (sym h.sorts) (firsts_once (λ d. is_sort d.item) (flat_map (λ all. all) (brought types)))

pub operations_once : (types : List TypeDef) (flat : FlatData) → Flattens types flat → IsDistinct is_same_item (map (λ d. d.item) (map described_of flat.operations.items))
operations_once types flat h =
    subst (λ ds. IsDistinct is_same_item (map (λ d. d.item) ds)) (sym h.operations) (firsts_once (λ d. not (is_sort d.item)) (flat_map (λ all. all) (brought types)))

-- the context of a type by its numbers
pub context_had : (sorts operations : List Described) (items : List Item)
    → context_at sorts operations (numbers_had items sorts) (numbers_had items operations) ≡ type_context sorts operations items
context_had sorts operations items =
    ap (λ ss. context_over ss (stands_at operations (numbers_had items operations))) (had_at items sorts)
    ∙ ap (λ os. context_over (had_of items sorts) os) (had_at items operations)

-- one number further

position_in : (p : Item → Bool) (ds : List Described) → position_or_len p (map (λ d. d.item) ds) ≡ position_or_len (λ d. p d.item) ds
position_in p ds = position_through (λ d. d.item) p ds

not_less : (n m : ℕ) → m ≤ n → nat_lt n m ≡ false
not_less n m h = grind (arith, nat_tests, h)

is_less : (n m : ℕ) → n < m → nat_lt n m ≡ true
is_less n m h = grind (arith, nat_tests, h)

pub had_next : (table : List Item) (numbers : List ℕ) (i : ℕ) (x : Item) (all : List Described) (old new : List ℕ) (n : ℕ) → i < length numbers
    → x ≡ get_or table (get_or numbers i 0) no_item → IsDistinct is_same_item (map (λ d. d.item) all)
    → n ≡ position_or_len (is_same_item x) (map (λ d. d.item) all) → old ≡ numbers_had (items_at table (take i numbers)) all
    → new ≡ (if nat_lt n (length all) then insert_key nat_cmp old n else old) → new ≡ numbers_had (items_at table (take (i + 1) numbers)) all
had_next table numbers i x all old new n within at once number before put =
    put ∙ ap (λ ns. if nat_lt n (length all) then insert_key nat_cmp ns n else ns) before ∙ by_case (cases_lt n (length all))
    ∙ ap (λ xs. numbers_had xs all) (sym further)
  where
    further : items_at table (take (i + 1) numbers) ≡ items_at table (take i numbers) ++ x ∷ []
    further =
        ap (items_at table) (take_next numbers i (get_or numbers i 0) within (get_or_default numbers i 0 (get_or numbers i 0) within))
        ∙ map-append (λ k. get_or table k no_item) (take i numbers) (get_or numbers i 0 ∷ []) ∙ ap (λ y. items_at table (take i numbers) ++ y ∷ []) (sym at)

    place : n ≡ position_or_len (λ d. is_same_item x d.item) all
    place = number ∙ position_in (is_same_item x) all

    by_case : (n < length all) ⊎ (length all ≤ n) → (if nat_lt n (length all) then insert_key nat_cmp (numbers_had (items_at table (take i numbers)) all) n else numbers_had (items_at table (take i numbers)) all)
        ≡ numbers_had (items_at table (take i numbers) ++ x ∷ []) all
    by_case (inl h) = rw (is_less n (length all) h) (put_number (items_at table (take i numbers)) x all n once place h)
    by_case (inr h) = rw (not_less n (length all) h) (no_number (items_at table (take i numbers)) x all n place h)

one_before : (all : List Described) (o : Option Described) (ns ms : List ℕ) → stands_at all (ns ++ ms) ≡ stands_at all ns ++ stands_at all ms
    → cons_option o (stands_at all (ns ++ ms)) ≡ cons_option o (stands_at all ns) ++ stands_at all ms
one_before all None ns ms h = h
one_before all (Some d) ns ms h = ap (λ z. d ∷ z) h

stands_joined : (all : List Described) (ns ms : List ℕ) → stands_at all (ns ++ ms) ≡ stands_at all ns ++ stands_at all ms
stands_joined all [] ms = refl
stands_joined all (n ∷ ns) ms = one_before all (slice_get all n) ns ms (stands_joined all ns ms)

pub stands_next : (all : List Described) (numbers : List ℕ) (i : ℕ) → i < length numbers
    → stands_at all (take i numbers) ++ stands_at all (get_or numbers i 0 ∷ []) ≡ stands_at all (take (i + 1) numbers)
stands_next all numbers i within =
    sym (ap (stands_at all) (take_next numbers i (get_or numbers i 0) within (get_or_default numbers i 0 (get_or numbers i 0) within))
    ∙ stands_joined all (take i numbers) (get_or numbers i 0 ∷ []))

pub there : {A B : Type 0} (view : A → B) (all : List A) (n : ℕ) (x : A) → n < length all → x ≡ get_or all n x → slice_get (map view all) n ≡ Some (view x)
there view all n x within at = slice_get-map view all n ∙ ap (option_map view) (slice_get_next all n x within at)

pub past : {A B : Type 0} (view : A → B) (all : List A) (n : ℕ) → length all ≤ n → slice_get (map view all) n ≡ None
past view all n h = slice_get-map view all n ∙ ap (option_map view) (slice_get_past all n h)
