-- Lists that are joined of pieces of one length.
use Rattle.std.proofs.Common.{ℕ, zero, suc, ◌≡◌, ◌≤◌, ◌<◌, ◌+◌, ◌-◌, ◌*◌, ◌/◌, ◌%◌, ◌++◌, ◌∙◌, List, [], ◌∷◌, flat_map, length, refl}
use Rattle.std.proofs.Common.{sym, ap}
use Rattle.std.proofs.Common.{arith, inl, inr, length-append, ◌⊎◌}
use Rattle.std.specs.Prelude.{option_and_then}
use Rattle.std.specs.List.{slice_get}
use Rattle.std.proofs.lemmas.Bool.{cases_lt}
use Rattle.std.proofs.Math.Nat.{div-eq-sub-div, mod-eq-sub-mod, div-eq_of_lt, mod-eq_of_lt}
use Rattle.spec_core.specs.Lists.{Each}
use Rattle.spec_core.proofs.Lists.{each_append}

pub each_flat : {A B : Type 0} (P : B → Type 0) (f : A → List B) (xs : List A) → ((x : A) → Each P (f x)) → Each P (flat_map f xs)
each_flat P f [] e = tt
each_flat P f (x ∷ xs) e = each_append P (f x) (flat_map f xs) (e x) (each_flat P f xs e)

-- as long as all pieces together
pub length_pieces : {A B : Type 0} (f : A → List B) (c : ℕ) (xs : List A) → Each (λ x. length (f x) ≡ c) xs →
    length (flat_map f xs) ≡ length xs * c
length_pieces f c [] h = grind arith
length_pieces f c (x ∷ xs) (e, h) =
    length-append (f x) (flat_map f xs) ∙ ap (λ z. z + length (flat_map f xs)) e ∙ ap (λ z. c + z) (length_pieces f c xs h) ∙ one_more c
    (length xs)
  where
    one_more : (c n : ℕ) → c + n * c ≡ suc n * c
    one_more c n = grind arith

pub get_left : {A : Type 0} (xs ys : List A) (n : ℕ) → n < length xs → slice_get (xs ++ ys) n ≡ slice_get xs n
get_left [] ys n h = absurd (omega arith)
get_left (x ∷ xs) ys zero h = refl
get_left (x ∷ xs) ys (suc n) h = get_left xs ys n (omega arith)

pub get_right : {A : Type 0} (xs ys : List A) (n : ℕ) → length xs ≤ n → slice_get (xs ++ ys) n ≡ slice_get ys (n - length xs)
get_right [] ys n h = ap (slice_get ys) (omega arith)
get_right (x ∷ xs) ys zero h = absurd (omega arith)
get_right (x ∷ xs) ys (suc n) h = get_right xs ys n (omega arith) ∙ ap (slice_get ys) (omega arith)

next : (n : ℕ) → n + 1 ≡ suc n
next n = omega arith

-- the n-th element stands in the piece that the quotient names, at the place that the remainder does
pub get_piece : {A B : Type 0} (f : A → List B) (c : ℕ) (xs : List A) (n : ℕ) → 0 < c → Each (λ x. length (f x) ≡ c) xs →
    slice_get (flat_map f xs) n ≡ option_and_then (λ x. slice_get (f x) (n % c)) (slice_get xs (n / c))
get_piece f c [] n p h = refl
get_piece f c (x ∷ xs) n p (e, h) = by_order (cases_lt n c) (get_piece f c xs (n - c) p h)
  where
    by_order : (n < c) ⊎ (c ≤ n) →
        slice_get (flat_map f xs) (n - c) ≡ option_and_then (λ x. slice_get (f x) ((n - c) % c)) (slice_get xs ((n - c) / c)) →
        slice_get (f x ++ flat_map f xs) n ≡ option_and_then (λ x. slice_get (f x) (n % c)) (slice_get (x ∷ xs) (n / c))
    by_order (inl l) r =
        get_left (f x) (flat_map f xs) n (omega arith)
        ∙ sym (ap (slice_get (f x)) (mod-eq_of_lt l))
        ∙ sym (ap (λ z. option_and_then (λ x. slice_get (f x) (n % c)) (slice_get (x ∷ xs) z)) (div-eq_of_lt l))
    by_order (inr l) r =
        get_right (f x) (flat_map f xs) n (omega arith)
        ∙ ap (λ z. slice_get (flat_map f xs) (n - z)) e
        ∙ r
        ∙ sym (ap (λ z. option_and_then (λ x. slice_get (f x) z) (slice_get xs ((n - c) / c))) (mod-eq-sub-mod l))
        ∙ sym (ap (λ z. option_and_then (λ x. slice_get (f x) (n % c)) (slice_get (x ∷ xs) z)) (div-eq-sub-div p l ∙ next ((n - c) / c)))
