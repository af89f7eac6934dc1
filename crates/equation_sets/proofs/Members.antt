-- Members of lists.
use Rattle.std.proofs.Common.{ℕ, ◌≡◌, ◌<◌, ◌≤◌, ◌+◌, ◌↔◌, List, [], ◌∷◌, ◌++◌, length, take, drop, get_or, refl, sym, subst}
use Rattle.std.proofs.Common.{inl, inr, add-one}
use Rattle.std.proofs.Math.Seq.{split_at}
use Rattle.spec_core.specs.Lists.{IsOneOf, NoTwo}
use Rattle.spec_core.proofs.Members.{each_from, each_one, one_left, one_parts, one_right}

abbrev pub Distinct : List ℕ → Type 0
Distinct xs = NoTwo (λ x y. x ≡ y) xs

-- lists without a number that stands twice, put together
pub distinct_joined : (xs ys : List ℕ) → Distinct xs → Distinct ys → ((x : ℕ) → IsOneOf x xs → IsOneOf x ys → ⊥) → Distinct (xs ++ ys)
distinct_joined [] ys a b h = b
distinct_joined (x ∷ xs) ys a b h = (
  each_from (λ y. x ≡ y → ⊥) (xs ++ ys) (λ y o e. elim (one_parts y xs ys o) [
    | inl p ↦ each_one (λ z. x ≡ z → ⊥) xs y a.0 p e
    | inr q ↦ h x (inl refl) (subst (λ z. IsOneOf z ys) (sym e) q)
  ]),
  distinct_joined xs ys a.1 b (λ y o p. h y (inr o) p),
)

pub distinct_left : (xs ys : List ℕ) → Distinct (xs ++ ys) → Distinct xs
distinct_left [] ys h = tt
distinct_left (x ∷ xs) ys h = (
  each_from (λ y. x ≡ y → ⊥) xs (λ y o. each_one (λ z. x ≡ z → ⊥) (xs ++ ys) y h.0 (one_left y xs ys o)),
  distinct_left xs ys h.1,
)

pub distinct_right : (xs ys : List ℕ) → Distinct (xs ++ ys) → Distinct ys
distinct_right [] ys h = h
distinct_right (x ∷ xs) ys h = distinct_right xs ys h.1

pub distinct_apart : (xs ys : List ℕ) → Distinct (xs ++ ys) → (x : ℕ) → IsOneOf x xs → IsOneOf x ys → ⊥
distinct_apart [] ys h x o p = absurd o
distinct_apart (z ∷ xs) ys h x (inl e) p =
    each_one (λ y. z ≡ y → ⊥) (xs ++ ys) x h.0 (one_right x xs ys p) (sym e)
distinct_apart (z ∷ xs) ys h x (inr o) p = distinct_apart xs ys h.1 x o p

-- the list before an element, the element, and the list behind it
pub parted : {A : Type 0} (xs : List A) (i : ℕ) (d : A) → i < length xs → xs ≡ take i xs ++ get_or xs i d ∷ drop (i + 1) xs
parted xs i d w = rw add-one (split_at xs i d w)

pub one_at : {A : Type 0} (xs : List A) (i : ℕ) (d : A) → i < length xs → IsOneOf (get_or xs i d) xs
one_at xs i d w =
    subst (IsOneOf (get_or xs i d)) (sym (parted xs i d w)) (one_right (get_or xs i d) (take i xs) (get_or xs i d ∷ drop (i + 1) xs) (inl refl))
