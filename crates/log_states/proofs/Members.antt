-- Elements of lists.
use Rattle.std.proofs.Common.{suc, zero, ◌≡◌, ◌↔◌, subst, arith, List, ◌∷◌, Contains, ◌⊎◌, inl, inr, Bool, true, false, IsTrue}

pub in_cases : {X : Type 0} (y x : X) (xs : List X) → Contains (y ∷ xs) x → (y ≡ x) ⊎ Contains xs x
in_cases y x xs (zero, below, at) = inl at
in_cases y x xs (suc k, below, at) = inr (k, omega (arith, below), at)
