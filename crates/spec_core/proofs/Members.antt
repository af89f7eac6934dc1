-- Elements of lists: those of which something holds, and where they come from.
use Rattle.std.proofs.Common.{ℕ, zero, suc, ◌≡◌, ◌<◌, ◌≤◌, ◌+◌, ◌⊎◌, inl, inr, List, [], ◌∷◌, ◌++◌, length, map, get_or, refl, sym, ap, subst, arith, Bool, true, false, cond, Some}
use Rattle.std.specs.List.{slice_get, filter, flat_map, range_with_len, Contains}
use Rattle.std.proofs.lemmas.Bool.{cases_lt}
use Rattle.spec_core.specs.Lists.{Each, OneOf, IsOneOf}

pub each_one : {A : Type 0} (P : A → Type 0) (xs : List A) (x : A) → Each P xs → IsOneOf x xs → P x
each_one P [] x h i = absurd i
each_one P (y ∷ ys) x h (inl e) = subst P (sym e) h.0
each_one P (y ∷ ys) x h (inr i) = each_one P ys x h.1 i

pub each_from : {A : Type 0} (P : A → Type 0) (xs : List A) → ((x : A) → IsOneOf x xs → P x) → Each P xs
each_from P [] h = tt
each_from P (y ∷ ys) h = (h y (inl refl), each_from P ys (λ x i. h x (inr i)))

pub some_left : {A : Type 0} (P : A → Type 0) (xs ys : List A) → OneOf P xs → OneOf P (xs ++ ys)
some_left P [] ys o = absurd o
some_left P (x ∷ xs) ys (inl h) = inl h
some_left P (x ∷ xs) ys (inr o) = inr (some_left P xs ys o)

pub some_right : {A : Type 0} (P : A → Type 0) (xs ys : List A) → OneOf P ys → OneOf P (xs ++ ys)
some_right P [] ys o = o
some_right P (x ∷ xs) ys o = inr (some_right P xs ys o)

pub some_parts : {A : Type 0} (P : A → Type 0) (xs ys : List A) → OneOf P (xs ++ ys) → OneOf P xs ⊎ OneOf P ys
some_parts P [] ys o = inr o
some_parts P (x ∷ xs) ys (inl h) = inl (inl h)
some_parts P (x ∷ xs) ys (inr o) = elim (some_parts P xs ys o) [ inl a ↦ inl (inr a) | inr b ↦ inr b ]

pub some_last : {A : Type 0} (P : A → Type 0) (xs : List A) (x : A) → P x → OneOf P (xs ++ x ∷ [])
some_last P [] x h = inl h
some_last P (y ∷ ys) x h = inr (some_last P ys x h)

-- what holds of an element that a loop comes to holds of one of the images
pub some_image : {A B : Type 0} (P : B → Type 0) (f : A → B) (xs ys : List A) (i : ℕ) (x : A) →
    ys ≡ xs → i < length ys → x ≡ get_or ys i x → P (f x) → OneOf P (map f xs)
some_image {A} {B} P f xs ys i x same within at h = subst (λ z. OneOf P (map f z)) same (there ys i within at)
  where
    there : (zs : List A) (i : ℕ) → i < length zs → x ≡ get_or zs i x → OneOf P (map f zs)
    there [] i within at = absurd (omega (arith, within))
    there (z ∷ zs) zero within at = inl (subst (λ y. P (f y)) at h)
    there (z ∷ zs) (suc i) within at = inr (there zs i (omega (arith, within)) at)

-- an element of which all three hold
pub some_of_each : {A : Type 0} (P Q R : A → Type 0) (xs : List A) → Each P xs → Each Q xs → OneOf R xs → (x : A) × P x × Q x × R x
some_of_each P Q R [] h k o = absurd o
some_of_each P Q R (x ∷ xs) h k (inl r) = (x, h.0, k.0, r)
some_of_each P Q R (x ∷ xs) h k (inr o) = some_of_each P Q R xs h.1 k.1 o

pub one_left : {A : Type 0} (x : A) (xs ys : List A) → IsOneOf x xs → IsOneOf x (xs ++ ys)
one_left x xs ys i = some_left (λ y. x ≡ y) xs ys i

pub one_right : {A : Type 0} (x : A) (xs ys : List A) → IsOneOf x ys → IsOneOf x (xs ++ ys)
one_right x xs ys i = some_right (λ y. x ≡ y) xs ys i

pub one_parts : {A : Type 0} (x : A) (xs ys : List A) → IsOneOf x (xs ++ ys) → IsOneOf x xs ⊎ IsOneOf x ys
one_parts x xs ys i = some_parts (λ y. x ≡ y) xs ys i

pub one_map : {A B : Type 0} (f : A → B) (x : A) (xs : List A) → IsOneOf x xs → IsOneOf (f x) (map f xs)
one_map f x [] i = absurd i
one_map f x (y ∷ ys) (inl e) = inl (ap f e)
one_map f x (y ∷ ys) (inr i) = inr (one_map f x ys i)

pub from_map : {A B : Type 0} (f : A → B) (xs : List A) (y : B) → IsOneOf y (map f xs) → (x : A) × IsOneOf x xs × (y ≡ f x)
from_map f [] y i = absurd i
from_map f (x ∷ xs) y (inl e) = (x, inl refl, e)
from_map f (x ∷ xs) y (inr i) = let r = from_map f xs y i in (r.0, inr r.1, r.2)

pub one_flat_map : {A B : Type 0} (f : A → List B) (x : A) (xs : List A) (y : B) → IsOneOf x xs → IsOneOf y (f x) → IsOneOf y (flat_map f xs)
one_flat_map f x [] y i k = absurd i
one_flat_map f x (z ∷ xs) y (inl e) k = one_left y (f z) (flat_map f xs) (subst (λ u. IsOneOf y (f u)) e k)
one_flat_map f x (z ∷ xs) y (inr i) k = one_right y (f z) (flat_map f xs) (one_flat_map f x xs y i k)

pub from_flat_map : {A B : Type 0} (f : A → List B) (xs : List A) (y : B) → IsOneOf y (flat_map f xs) → (x : A) × IsOneOf x xs × IsOneOf y (f x)
from_flat_map f [] y i = absurd i
from_flat_map {A} f (x ∷ xs) y i = by_side (one_parts y (f x) (flat_map f xs) i) (λ k. from_flat_map f xs y k)
  where
    by_side : IsOneOf y (f x) ⊎ IsOneOf y (flat_map f xs) → (IsOneOf y (flat_map f xs) → (z : A) × IsOneOf z xs × IsOneOf y (f z)) →
        (z : A) × IsOneOf z (x ∷ xs) × IsOneOf y (f z)
    by_side (inl k) others = (x, inl refl, k)
    by_side (inr k) others = let r = others k in (r.0, inr r.1, r.2)

pub one_filter : {A : Type 0} (p : A → Bool) (x : A) (xs : List A) → IsOneOf x xs → p x ≡ true → IsOneOf x (filter p xs)
one_filter p x [] i e = absurd i
one_filter p x (y ∷ xs) (inl q) e =
    subst (λ b. IsOneOf x (cond b (y ∷ filter p xs) (filter p xs))) (sym (subst (λ z. p z ≡ true) q e)) (inl q)
one_filter p x (y ∷ xs) (inr i) e = by_test (p y) (one_filter p x xs i e)
  where
    by_test : (b : Bool) → IsOneOf x (filter p xs) → IsOneOf x (cond b (y ∷ filter p xs) (filter p xs))
    by_test true k = inr k
    by_test false k = k

pub from_filter : {A : Type 0} (p : A → Bool) (x : A) (xs : List A) → IsOneOf x (filter p xs) → IsOneOf x xs × (p x ≡ true)
from_filter p x [] i = absurd i
from_filter p x (y ∷ xs) i = by_test (p y) refl (λ k. from_filter p x xs k) i
  where
    by_test : (b : Bool) → p y ≡ b → (IsOneOf x (filter p xs) → IsOneOf x xs × (p x ≡ true)) →
        IsOneOf x (cond b (y ∷ filter p xs) (filter p xs)) → IsOneOf x (y ∷ xs) × (p x ≡ true)
    by_test true t others (inl e) = (inl e, subst (λ z. p z ≡ true) (sym e) t)
    by_test true t others (inr k) = let r = others k in (inr r.0, r.1)
    by_test false t others k = let r = others k in (inr r.0, r.1)

pub one_slice_get : {A : Type 0} (xs : List A) (i : ℕ) (x : A) → slice_get xs i ≡ Some x → IsOneOf x xs
one_slice_get [] i x e = absurd (let no : ⊥ = cc in no)
one_slice_get (y ∷ xs) zero x e = let same : y ≡ x = cc in inl (sym same)
one_slice_get (y ∷ xs) (suc i) x e = inr (one_slice_get xs i x e)

pub one_in_range : (n a k : ℕ) → a ≤ k → k < a + n → IsOneOf k (range_with_len a n)
one_in_range zero a k low high = absurd (omega arith)
one_in_range (suc n) a k low high = by_order (cases_lt a k) (λ h. one_in_range n (a + 1) k h (omega arith))
  where
    by_order : (a < k) ⊎ (k ≤ a) → (a + 1 ≤ k → IsOneOf k (range_with_len (a + 1) n)) → IsOneOf k (range_with_len a (suc n))
    by_order (inl h) others = inr (others (omega (arith, h)))
    by_order (inr h) others = inl (omega (arith, h))

pub one_contained : {A : Type 0} (x : A) (xs : List A) → Contains xs x → IsOneOf x xs
one_contained x [] (k, within, at) = absurd (omega (arith, within))
one_contained x (y ∷ ys) (zero, within, at) = inl (sym at)
one_contained x (y ∷ ys) (suc k, within, at) = inr (one_contained x ys (k, omega (arith, within), at))

pub contains_one : {A : Type 0} (x : A) (xs : List A) → IsOneOf x xs → Contains xs x
contains_one x [] i = absurd i
contains_one x (y ∷ ys) (inl e) = (zero, omega arith, sym e)
contains_one x (y ∷ ys) (inr i) = let r : Contains ys x = contains_one x ys i in (suc r.0, omega (arith, r.1), r.2)

pub contains_none : {A : Type 0} (x : A) → Contains [] x → ⊥
contains_none x (k, within, at) = omega (arith, within)

pub contains_first : {A : Type 0} (x : A) (xs : List A) → Contains (x ∷ xs) x
contains_first x xs = (0, omega arith, refl)

pub contains_later : {A : Type 0} (x y : A) (xs : List A) → Contains xs y → Contains (x ∷ xs) y
contains_later x y xs (k, within, at) = (suc k, omega (arith, within), at)
