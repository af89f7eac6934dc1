-- Lists that a loop goes over.
use Rattle.std.proofs.Common.{ℕ, zero, suc, ◌≡◌, refl, drop, List, [], ◌∷◌}

-- one element dropped, and then others
pub drop_behind : {A : Type 0} (k : ℕ) (xs : List A) → drop (suc k) xs ≡ drop k (drop 1 xs)
drop_behind zero [] = refl
drop_behind (suc k) [] = refl
drop_behind k (x ∷ xs) = refl
