-- The first of those that something is found for.
use Rattle.std.proofs.Common.{ℕ, zero, suc, ◌≡◌, ◌<◌, ◌+◌, List, [], ◌∷◌, ◌++◌, Option, Some, None, length, take, get_or, refl, ap, ◌∙◌, arith}
use Rattle.std.specs.List.{filter_map, cons_option, slice_get}
use Rattle.std.proofs.lemmas.List.Elements.{filter_map-append}
use Rattle.spec_core.proofs.Lists.{take_next}

nothing-here : {B : Type 0} (o : Option B) (ys : List B) → cons_option o ys ≡ [] → (o ≡ None) × (ys ≡ [])
nothing-here None ys h = (refl, h)
nothing-here (Some y) ys h = absurd (cc)

pub first-found : {A B : Type 0} (h : A → Option B) (xs : List A) (i : ℕ) (d : A) (y : B) → i < length xs → filter_map h (take i xs) ≡ [] → h (get_or xs i d) ≡ Some y → slice_get (filter_map h xs) 0 ≡ Some y
first-found h [] i d y within none found = absurd (omega arith)
first-found h (x ∷ xs) zero d y within none found = ap (λ o. slice_get (cons_option o (filter_map h xs)) 0) found
first-found h (x ∷ xs) (suc i) d y within none found =
    let k = nothing-here (h x) (filter_map h (take i xs)) none in
    ap (λ o. slice_get (cons_option o (filter_map h xs)) 0) k.0 ∙ first-found h xs i d y (omega arith) k.1 found

pub none-more : {A B : Type 0} (h : A → Option B) (xs : List A) (i : ℕ) (x : A) → i < length xs → x ≡ get_or xs i x → filter_map h (take i xs) ≡ [] → h x ≡ None → filter_map h (take (i + 1) xs) ≡ []
none-more h xs i x within at none nothing =
    ap (filter_map h) (take_next xs i x within at) ∙ filter_map-append h (take i xs) (x ∷ [])
    ∙ ap (λ z. z ++ cons_option (h x) []) none ∙ ap (λ o. cons_option o []) nothing

pub itself : (xs : List ℕ) (i : ℕ) → i < length xs → get_or xs i 0 ≡ get_or xs i (get_or xs i 0)
itself [] i h = absurd (omega arith)
itself (x ∷ xs) zero h = refl
itself (x ∷ xs) (suc i) h = itself xs i (omega arith)
