-- What holds of each element of a list; the front of a list that a loop goes over; images.
use Rattle.std.proofs.Common.{ℕ, zero, suc, ◌≡◌, ◌<◌, ◌≤◌, ◌+◌, List, [], ◌∷◌, length, map, take, get_or, add-one, arith, ap, subst, sym, ◌-◌, ◌++◌, drop, refl, Bool, true, ◌||◌, cond, Some, reverse}
use Rattle.std.proofs.Common.{◌∙◌, IsTrue, false}
use Rattle.std.specs.List.{slice_get, insert, filter, flat_map, list_any, range_with_len, zip}
use Rattle.std.proofs.lemmas.List.{take_more, drop_more, take_all, map-append, append-nil, reverse-append}
use Rattle.std.proofs.lemmas.List.Concat.{flat_map-append}
use Rattle.std.proofs.lemmas.Option.{slice_get_read}
use Rattle.spec_core.specs.Lists.{Each}
use Rattle.spec_core.proofs.Booleans.{or_true}

pub untrue : IsTrue false → ⊥
untrue h = cc

pub each-take-suc : {A : Type 0} (P : A → Type 0) (xs : List A) (i : ℕ) (d : A) →
    i < length xs → Each P (take i xs) → P (get_or xs i d) → Each P (take (suc i) xs)
each-take-suc P [] i d within before here = absurd (omega arith)
each-take-suc P (x ∷ xs) zero d within before here = (here, tt)
each-take-suc P (x ∷ xs) (suc i) d within before here = (before.0, each-take-suc P xs i d (omega arith) before.1 here)

-- one more element of a list that a loop goes over
pub each-next : {A : Type 0} (P : A → Type 0) (xs ys : List A) (i : ℕ) (x : A) →
    ys ≡ xs → i < length ys → x ≡ get_or ys i x → Each P (take i xs) → P x → Each P (take (i + 1) xs)
each-next P xs ys i x same within at before here =
    let e : x ≡ get_or xs i x = at ∙ ap (λ zs. get_or zs i x) same in
    let w : i < length xs = omega (arith, ap length same) in
    rw add-one (each-take-suc P xs i x w before (subst P e here))

-- all elements, at the end of such a loop
pub each-all : {A : Type 0} (P : A → Type 0) (xs : List A) (i : ℕ) → length xs ≤ i → Each P (take i xs) → Each P xs
each-all P [] i h e = tt
each-all P (x ∷ xs) zero h e = absurd (omega arith)
each-all P (x ∷ xs) (suc i) h e = (e.0, each-all P xs i (omega arith) e.1)

pub each-map : {A B : Type 0} (P : B → Type 0) (f : A → B) (xs : List A) → Each (λ x. P (f x)) xs → Each P (map f xs)
each-map P f [] h = tt
each-map P f (x ∷ xs) h = (h.0, each-map P f xs h.1)

-- what holds of each image holds of that of one element
each-get : {A B : Type 0} (P : B → Type 0) (f : A → B) (xs : List A) (i : ℕ) (d : A) →
    i < length xs → Each P (map f xs) → P (f (get_or xs i d))
each-get P f [] i d within h = absurd (omega arith)
each-get P f (x ∷ xs) zero d within h = h.0
each-get P f (x ∷ xs) (suc i) d within h = each-get P f xs i d (omega arith) h.1

pub each-at : {A B : Type 0} (P : B → Type 0) (f : A → B) (xs ys : List A) (i : ℕ) (x : A) →
    ys ≡ xs → i < length ys → x ≡ get_or ys i x → Each P (map f xs) → P (f x)
each-at P f xs ys i x same within at h =
    let e : x ≡ get_or xs i x = at ∙ ap (λ zs. get_or zs i x) same in
    let w : i < length xs = omega (arith, ap length same) in
    subst (λ y. P (f y)) (sym e) (each-get P f xs i x w h)

pub each_append : {A : Type 0} (P : A → Type 0) (xs ys : List A) → Each P xs → Each P ys → Each P (xs ++ ys)
each_append P [] ys h k = k
each_append P (x ∷ xs) ys h k = (h.0, each_append P xs ys h.1 k)

pub each_push : {A : Type 0} (P : A → Type 0) (xs : List A) (x : A) → Each P xs → P x → Each P (xs ++ x ∷ [])
each_push P [] x h k = (k, tt)
each_push P (y ∷ ys) x h k = (h.0, each_push P ys x h.1 k)

pub each_left : {A : Type 0} (P : A → Type 0) (xs ys : List A) → Each P (xs ++ ys) → Each P xs
each_left P [] ys h = tt
each_left P (x ∷ xs) ys h = (h.0, each_left P xs ys h.1)

pub each_right : {A : Type 0} (P : A → Type 0) (xs ys : List A) → Each P (xs ++ ys) → Each P ys
each_right P [] ys h = h
each_right P (x ∷ xs) ys h = each_right P xs ys h.1

pub each_middle : {A : Type 0} (P : A → Type 0) (xs ys : List A) (x : A) → Each P (xs ++ x ∷ ys) → P x
each_middle P [] ys x h = h.0
each_middle P (z ∷ xs) ys x h = each_middle P xs ys x h.1

pub each_implied : {A : Type 0} (P Q : A → Type 0) (xs : List A) → ((x : A) → P x → Q x) → Each P xs → Each Q xs
each_implied P Q [] f h = tt
each_implied P Q (x ∷ xs) f h = (f x h.0, each_implied P Q xs f h.1)

pub each_always : {A : Type 0} (P : A → Type 0) (xs : List A) → ((x : A) → P x) → Each P xs
each_always P [] f = tt
each_always P (x ∷ xs) f = (f x, each_always P xs f)

pub each_image : {A B : Type 0} (Q : A → Type 0) (P : B → Type 0) (f : A → B) (xs : List A) →
    ((x : A) → Q x → P (f x)) → Each Q xs → Each P (map f xs)
each_image Q P f [] h k = tt
each_image Q P f (x ∷ xs) h k = (h x k.0, each_image Q P f xs h k.1)

pub each_flat_map : {A B : Type 0} (Q : A → Type 0) (P : B → Type 0) (f : A → List B) (xs : List A) →
    ((x : A) → Q x → Each P (f x)) → Each Q xs → Each P (flat_map f xs)
each_flat_map Q P f [] h k = tt
each_flat_map Q P f (x ∷ xs) h k = each_append P (f x) (flat_map f xs) (h x k.0) (each_flat_map Q P f xs h k.1)

pub each_filter : {A : Type 0} (P : A → Type 0) (p : A → Bool) (xs : List A) → Each P xs → Each P (filter p xs)
each_filter P p [] h = tt
each_filter {A = A} P p (x ∷ xs) h = by_test (p x) (each_filter P p xs h.1)
  where
    by_test : (b : Bool) → Each P (filter p xs) → Each P (cond b (x ∷ filter p xs) (filter p xs))
    by_test true k = (h.0, k)
    by_test false k = k

pub each_take : {A : Type 0} (P : A → Type 0) (n : ℕ) (xs : List A) → Each P xs → Each P (take n xs)
each_take P zero xs h = tt
each_take P (suc n) [] h = tt
each_take P (suc n) (x ∷ xs) h = (h.0, each_take P n xs h.1)

pub each_insert : {A : Type 0} (P : A → Type 0) (xs : List A) (i : ℕ) (x : A) → Each P xs → P x → Each P (insert xs i x)
each_insert P [] zero x h k = (k, tt)
each_insert P [] (suc i) x h k = (k, tt)
each_insert P (y ∷ ys) zero x h k = (k, h)
each_insert P (y ∷ ys) (suc i) x h k = (h.0, each_insert P ys i x h.1 k)

pub each_get_or : {A : Type 0} (P : A → Type 0) (xs : List A) (i : ℕ) (d : A) → i < length xs → Each P xs → P (get_or xs i d)
each_get_or P [] i d within h = absurd (omega arith)
each_get_or P (x ∷ xs) zero d within h = h.0
each_get_or P (x ∷ xs) (suc i) d within h = each_get_or P xs i d (omega arith) h.1

pub each_slice_get : {A : Type 0} (P : A → Type 0) (xs : List A) (i : ℕ) (x : A) → Each P xs → slice_get xs i ≡ Some x → P x
each_slice_get P [] i x h e = absurd (let no : ⊥ = cc in no)
each_slice_get P (y ∷ xs) zero x h e = let same : y ≡ x = cc in subst P same h.0
each_slice_get P (y ∷ xs) (suc i) x h e = each_slice_get P xs i x h.1 e

pub left_empty : {A : Type 0} (xs ys : List A) → xs ++ ys ≡ [] → xs ≡ []
left_empty [] ys e = refl
left_empty (x ∷ xs) ys e = let no : ⊥ = cc in absurd no

pub right_empty : {A : Type 0} (xs ys : List A) → xs ++ ys ≡ [] → ys ≡ []
right_empty [] ys e = e
right_empty (x ∷ xs) ys e = let no : ⊥ = cc in absurd no

pub both_empty : {A : Type 0} (xs ys : List A) → xs ++ ys ≡ [] → (xs ≡ []) × (ys ≡ [])
both_empty [] ys e = (refl, e)
both_empty (x ∷ xs) ys e = let no : ⊥ = cc in absurd no

pub cons_not_empty : {A : Type 0} (x : A) (xs : List A) → x ∷ xs ≡ [] → ⊥
cons_not_empty x xs e = cc

-- an element within the list is its own default
pub own_default : {A : Type 0} (xs : List A) (i : ℕ) (d : A) → i < length xs → get_or xs i d ≡ get_or xs i (get_or xs i d)
own_default [] i d h = absurd (omega arith)
own_default (x ∷ xs) zero d h = refl
own_default (x ∷ xs) (suc i) d h = own_default xs i d (omega arith)

pub slice_get_next : {A : Type 0} (xs : List A) (i : ℕ) (x : A) → i < length xs → x ≡ get_or xs i x → slice_get xs i ≡ Some x
slice_get_next xs i x within at = slice_get_read xs (length xs) i x refl within at

pub take_next : {A : Type 0} (xs : List A) (i : ℕ) (x : A) → i < length xs → x ≡ get_or xs i x → take (i + 1) xs ≡ take i xs ++ x ∷ []
take_next xs i x within at = take_more xs i x within ∙ ap (λ y. take i xs ++ y ∷ []) (sym at)

pub map_next : {A B : Type 0} (f : A → B) (xs : List A) (i : ℕ) (x : A) → i < length xs → x ≡ get_or xs i x →
    map f (take (i + 1) xs) ≡ map f (take i xs) ++ f x ∷ []
map_next f xs i x within at = ap (map f) (take_next xs i x within at) ∙ map-append f (take i xs) (x ∷ [])

pub map_map_next : {A B C : Type 0} (g : B → C) (f : A → B) (old new : List C) (xs : List A) (i : ℕ) (x : A) →
    i < length xs → x ≡ get_or xs i x → old ≡ map g (map f (take i xs)) → new ≡ old ++ g (f x) ∷ [] →
    new ≡ map g (map f (take (i + 1) xs))
map_map_next g f old new xs i x within at before more =
    more ∙ ap (λ zs. zs ++ g (f x) ∷ []) before
    ∙ sym (ap (map g) (map_next f xs i x within at) ∙ map-append g (map f (take i xs)) (f x ∷ []))

pub flat_map_next : {A B : Type 0} (f : A → List B) (old new : List B) (xs : List A) (i : ℕ) (x : A) →
    i < length xs → x ≡ get_or xs i x → old ≡ flat_map f (take i xs) → new ≡ old ++ f x → new ≡ flat_map f (take (i + 1) xs)
flat_map_next f old new xs i x within at before more =
    more ∙ ap (λ zs. zs ++ f x) before
    ∙ sym (ap (flat_map f) (take_next xs i x within at) ∙ flat_map-append f (take i xs) (x ∷ []) ∙ ap (λ z. flat_map f (take i xs) ++ z) (append-nil (f x)))

-- the images of an element and of those behind it
pub map_drop : {A B : Type 0} (f : A → B) (xs : List A) (i : ℕ) (x : A) → i < length xs → x ≡ get_or xs i x →
    map f (drop i xs) ≡ f x ∷ map f (drop (i + 1) xs)
map_drop f xs i x within at = ap (map f) (drop_more xs i x within ∙ ap (λ z. z ∷ drop (i + 1) xs) (sym at))

pub map_none : {A B : Type 0} (f : A → B) (xs : List A) → length xs < 1 → [] ≡ map f xs
map_none f [] h = refl
map_none f (x ∷ xs) h = absurd (omega arith)

-- the image of the first element, and those of the rest, as the pattern of a slice gives it
pub map_first : {A B : Type 0} (f : A → B) (xs : List A) (x : A) → 1 ≤ length xs → x ≡ get_or xs 0 x →
    f x ∷ map f (take (length xs - 1) (drop 1 xs)) ≡ map f xs
map_first f [] x h e = absurd (omega arith)
map_first f (y ∷ ys) x h e =
    let n : length ys ≤ length (y ∷ ys) - 1 = omega arith in
    ap (λ z. f z ∷ map f (take (length (y ∷ ys) - 1) ys)) e ∙ ap (λ zs. f y ∷ map f zs) (take_all (length (y ∷ ys) - 1) ys n)

pub map_reverse : {A B : Type 0} (f : A → B) (xs : List A) → map f (reverse xs) ≡ reverse (map f xs)
map_reverse f [] = refl
map_reverse f (x ∷ xs) =
    ap (map f) (reverse-append (x ∷ []) xs)
    ∙ map-append f (reverse xs) (x ∷ [])
    ∙ ap (λ l. l ++ f x ∷ []) (map_reverse f xs)
    ∙ sym (reverse-append (f x ∷ []) (map f xs))

pub flat_map_same : {A B : Type 0} (f g : A → List B) (xs : List A) → ((x : A) → f x ≡ g x) → flat_map f xs ≡ flat_map g xs
flat_map_same f g [] h = refl
flat_map_same f g (x ∷ xs) h = ap (λ z. z ++ flat_map f xs) (h x) ∙ ap (λ z. g x ++ z) (flat_map_same f g xs h)

pub filter_none : {A : Type 0} (p : A → Bool) (xs : List A) → ((x : A) → p x ≡ false) → filter p xs ≡ []
filter_none p [] h = refl
filter_none p (x ∷ xs) h = ap (λ b. cond b (x ∷ filter p xs) (filter p xs)) (h x) ∙ filter_none p xs h

pub any_at : {A B : Type 0} (p : B → Bool) (f : A → B) (xs : List A) (i : ℕ) (x : A) →
    i < length xs → x ≡ get_or xs i x → p (f x) ≡ true → true ≡ list_any p (map f xs)
any_at p f [] i x within at passes = absurd (omega arith)
any_at p f (y ∷ xs) zero x within at passes = ap (λ b. b || list_any p (map f xs)) (sym (ap (λ z. p (f z)) (sym at) ∙ passes))
any_at p f (y ∷ xs) (suc i) x within at passes = sym (or_true (p (f y))) ∙ ap (λ b. p (f y) || b) (any_at p f xs i x (omega arith) at passes)

pub range_suc : (a n : ℕ) → range_with_len a (suc n) ≡ range_with_len a n ++ (a + n) ∷ []
range_suc a zero = ap (λ z. z ∷ []) (omega arith)
range_suc a (suc n) = ap (λ zs. a ∷ zs) (range_suc (a + 1) n) ∙ ap (λ z. a ∷ (range_with_len (a + 1) n ++ z ∷ [])) (omega arith)

pub length_zip : {A B : Type 0} (xs : List A) (ys : List B) → length ys ≡ length xs → length (zip xs ys) ≡ length xs
length_zip [] ys h = refl
length_zip (x ∷ xs) [] h = absurd (omega (arith, h))
length_zip (x ∷ xs) (y ∷ ys) h = ap suc (length_zip xs ys (omega (arith, h)))
