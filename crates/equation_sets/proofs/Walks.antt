-- Lists of numbers that a loop goes over.
use Rattle.std.proofs.Common.{ℕ, ◌≡◌, ◌<◌, ◌≤◌, ◌+◌, ◌↔◌, List, [], ◌∷◌, ◌++◌, Bool, length, take, get_or, sym, subst, inl, inr, ◌⊎◌, arith}
use Rattle.std.proofs.Common.{zero, suc, refl}
use Rattle.std.proofs.lemmas.List.{take_more}
use Rattle.spec_core.specs.Lists.{Each, IsOneOf}
use Rattle.spec_core.proofs.Lists.{each_push, each_implied}
use Rattle.spec_core.proofs.Members.{one_left, one_parts, one_right}
use Rattle.equation_sets.specs.Members.{IsIn}

pub bound_next : (low high : ℕ) (xs : List ℕ) (i : ℕ) → low ≤ high → get_or xs i 0 < high → i < length xs →
    Each (λ n. n < low) (take i xs) → Each (λ n. n < high) (take (i + 1) xs)
bound_next low high xs i le here w before =
    subst (Each (λ n. n < high)) (sym (take_more xs i 0 w))
    (each_push (λ n. n < high) (take i xs) (get_or xs i 0) (each_implied (λ n. n < low) (λ n. n < high) (take i xs) (λ n h. omega arith) before) here)

-- a set to which the next number is put
pub exact_next : (old new : List Bool) (xs : List ℕ) (i : ℕ) → i < length xs →
    ((n : ℕ) → IsIn n old → IsIn n new) → ((n : ℕ) → IsIn n new → IsIn n old ⊎ (n ≡ get_or xs i 0)) → IsIn (get_or xs i 0) new →
    ((n : ℕ) → IsIn n old ↔ IsOneOf n (take i xs)) → (n : ℕ) → IsIn n new ↔ IsOneOf n (take (i + 1) xs)
exact_next old new xs i w kept only added exact n =
    let x = get_or xs i 0 in
    let e : take (i + 1) xs ≡ take i xs ++ x ∷ [] = take_more xs i 0 w in (
      λ h. subst (IsOneOf n) (sym e) (elim (only n h) [
        | inl a ↦ one_left n (take i xs) (x ∷ []) ((exact n).0 a)
        | inr b ↦ one_right n (take i xs) (x ∷ []) (inl b)
      ]),
      λ o. elim (one_parts n (take i xs) (x ∷ []) (subst (IsOneOf n) e o)) [
        | inl a ↦ kept n ((exact n).1 a)
        | inr b ↦ elim b [ inl s ↦ subst (λ k. IsIn k new) (sym s) added | inr nil ↦ absurd nil ]
      ],
    )

-- the next number is within the bound of all
pub within_at : (bound : ℕ) (xs : List ℕ) (i : ℕ) → i < length xs → Each (λ n. n < bound) xs → get_or xs i 0 < bound
within_at bound [] i w all = absurd (omega arith)
within_at bound (x ∷ xs) zero w all = all.0
within_at bound (x ∷ xs) (suc i) w all = within_at bound xs i (omega arith) all.1
