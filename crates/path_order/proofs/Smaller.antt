-- Two lists of terms that a loop goes over from the left.
use Rattle.std.proofs.Common.{ℕ, zero, suc, ◌≡◌, ◌<◌, ◌≤◌, ◌+◌, ◌↔◌, List, [], ◌∷◌, length, map, drop, get_or, add-one, sym, subst, ap, arith, ◌⊎◌}
use Rattle.std.proofs.lemmas.List.{drop_all}
use Rattle.spec_core.specs.declared.term.Term.{Term}
use Rattle.spec_core.specs.Order.{IsInside, IsSmaller}
use Rattle.spec_core.specs.Terms.{terms, term_of}

drop_suc : (xs : List Term) (i : ℕ) (x : Term) → i < length xs → x ≡ get_or xs i x → drop i xs ≡ x ∷ drop (suc i) xs
drop_suc [] i x w a = absurd (omega arith)
drop_suc (y ∷ xs) zero x w a = ap (λ z. z ∷ xs) (sym a)
drop_suc (y ∷ xs) (suc i) x w a = drop_suc xs i x (omega arith) a

drop_at : (xs : List Term) (i : ℕ) (x : Term) → i < length xs → x ≡ get_or xs i x → drop i xs ≡ x ∷ drop (i + 1) xs
drop_at xs i x w a = rw add-one (drop_suc xs i x w a)

-- the lists from this place on
abbrev pub SmallerFrom : ℕ → List Term → List Term → Type 0
SmallerFrom i xs ys = IsSmaller (terms (map term_of (drop i xs))) (terms (map term_of (drop i ys)))

abbrev Smaller : List Term → List Term → Type 0
Smaller xs ys = IsSmaller (terms (map term_of xs)) (terms (map term_of ys))

pub smaller_at : (xs ys : List Term) (i : ℕ) (x y : Term) → i < length xs → i < length ys → x ≡ get_or xs i x → y ≡ get_or ys i y →
    SmallerFrom i xs ys ↔ IsInside (term_of x) (term_of y) ⊎ (term_of x ≡ term_of y) × SmallerFrom (i + 1) xs ys
smaller_at xs ys i x y w v a b =
    let k : drop i xs ≡ x ∷ drop (i + 1) xs = drop_at xs i x w a in
    let l : drop i ys ≡ y ∷ drop (i + 1) ys = drop_at ys i y v b in (
      λ h. subst (λ zs. Smaller (x ∷ drop (i + 1) xs) zs) l (subst (λ zs. Smaller zs (drop i ys)) k h),
      λ h. subst (λ zs. Smaller zs (drop i ys)) (sym k) (subst (λ zs. Smaller (x ∷ drop (i + 1) xs) zs) (sym l) h),
    )

pub left_ends : (xs ys : List Term) (i : ℕ) → length xs ≤ i → SmallerFrom i xs ys → ⊥
left_ends xs ys i w h = subst (λ zs. IsSmaller (terms (map term_of zs)) (terms (map term_of (drop i ys)))) (drop_all i xs w) h

pub right_ends : (xs ys : List Term) (i : ℕ) (x : Term) → i < length xs → x ≡ get_or xs i x → length ys ≤ i → SmallerFrom i xs ys → ⊥
right_ends xs ys i x w a v h =
    let k : IsSmaller (terms (map term_of (x ∷ drop (i + 1) xs))) (terms (map term_of (drop i ys))) =
    subst (λ zs. IsSmaller (terms (map term_of zs)) (terms (map term_of (drop i ys)))) (drop_at xs i x w a) h in
    subst (λ zs. IsSmaller (terms (map term_of (x ∷ drop (i + 1) xs))) (terms (map term_of zs))) (drop_all i ys v) k
