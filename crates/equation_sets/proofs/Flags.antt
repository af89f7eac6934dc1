-- A set of numbers, flag by flag.
use Rattle.std.proofs.Common.{ℕ, zero, suc, ◌<◌, List, [], ◌∷◌, ◌++◌, Bool, false, length, arith}
use Rattle.equation_sets.specs.Members.{IsIn}

pub in_pushed : (n : ℕ) (xs : List Bool) → IsIn n (xs ++ false ∷ []) → IsIn n xs
in_pushed zero [] h = h
in_pushed (suc n) [] h = h
in_pushed zero (x ∷ xs) h = h
in_pushed (suc n) (x ∷ xs) h = in_pushed n xs h

-- what is in a set is below its bound
pub in_below : (n : ℕ) (xs : List Bool) → IsIn n xs → n < length xs
in_below n [] h = cc
in_below zero (x ∷ xs) h = omega arith
in_below (suc n) (x ∷ xs) h = let k = in_below n xs h in omega (arith, k)
