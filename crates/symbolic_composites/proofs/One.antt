-- What is so of one thing, or of none.
use Rattle.std.proofs.Common.{◌≡◌, ◌⊎◌, inl, inr, subst}

-- it is known whether P holds
abbrev pub IsKnown : Type 0 → Type 0
IsKnown P = P ⊎ (P → ⊥)

-- P holds of this one and of no other, or of none
abbrev pub One : {A : Type 0} → (A → Type 0) → Type 0
One {A} P = ((a : A) × P a × ((b : A) → P b → b ≡ a)) ⊎ ((a : A) → P a → ⊥)

-- both of two
pub known_both : (P Q : Type 0) → IsKnown P → IsKnown Q → IsKnown (P × Q)
known_both P Q (inl p) (inl q) = inl (p, q)
known_both P Q (inl p) (inr out) = inr (λ h. out h.1)
known_both P Q (inr out) q = inr (λ h. out h.0)

pub known_as : (P Q : Type 0) → (P → Q) → (Q → P) → IsKnown P → IsKnown Q
known_as P Q f g (inl p) = inl (f p)
known_as P Q f g (inr out) = inr (λ q. out (g q))

-- two facts that say the same
pub one_as : {A : Type 0} (P Q : A → Type 0) → ((a : A) → P a → Q a) → ((a : A) → Q a → P a) → One P → One Q
one_as P Q f g (inl h) = inl (h.0, f h.0 h.1, λ b q. h.2 b (g b q))
one_as P Q f g (inr out) = inr (λ a q. out a (g a q))

-- one, of which something is known besides
pub one_where : {A : Type 0} (P R : A → Type 0) → One P → ((a : A) → IsKnown (R a)) → One (λ a. P a × R a)
one_where P R (inr out) known = inr (λ a h. out a h.0)
one_where P R (inl h) known = by_test (known h.0)
  where
    by_test : IsKnown (R h.0) → One (λ a. P a × R a)
    by_test (inl r) = inl (h.0, (h.1, r), λ b k. h.2 b k.0)
    by_test (inr out) = inr (λ b k. out (subst R (h.2 b k.0) k.1))

-- one, and one that it leads to
pub one_then : {A B : Type 0} (P : A → Type 0) (Q : A → B → Type 0) → One P → ((a : A) → P a → One (Q a)) →
    One (λ b. (a : A) × P a × Q a b)
one_then {A} {B} P Q (inr out) next = inr (λ b h. out h.0 h.1)
one_then {A} {B} P Q (inl h) next = by_next (next h.0 h.1)
  where
    by_next : One (Q h.0) → One (λ b. (a : A) × P a × Q a b)
    by_next (inl k) = inl (k.0, (h.0, h.1, k.1), λ c i. k.2 c (subst (λ z. Q z c) (h.2 i.0 i.1) i.2))
    by_next (inr out) = inr (λ c i. out c (subst (λ z. Q z c) (h.2 i.0 i.1) i.2))
