-- Numbers that are kept at most 2^32 - 1.
use Rattle.std.proofs.Common.{ℕ, ◌≡◌, ◌≤◌, ◌+◌, ◌*◌, ◌-◌, List, [], ◌∷◌, sym, subst, ◌∙◌, arith}
use Rattle.std.specs.Prelude.{min}
use Rattle.script_text.specs.Numbers.{number_behind}
use Rattle.simulator_lines.specs.Lines.{greatest, number_in}

-- digits make a number no smaller
grows : (n : ℕ) (ds : List ℕ) → n ≤ number_behind n ds
grows n [] = omega arith
grows n (d ∷ ds) = let h : 10 * n + (d - 48) ≤ number_behind (10 * n + (d - 48)) ds = grows (10 * n + (d - 48)) ds in omega (arith, h)

-- and it doesn't matter when it is kept at most so
pub kept : (n m : ℕ) (ds : List ℕ) → min n greatest ≡ min m greatest → min (number_behind n ds) greatest ≡ min (number_behind m ds) greatest
kept n m [] h = h
kept n m (d ∷ ds) h = kept (10 * n + (d - 48)) (10 * m + (d - 48)) ds (grind (arith, h))

-- one digit more
pub digit_more : (n next d : ℕ) (rest digits : List ℕ) → min (number_behind n (d ∷ rest)) greatest ≡ number_in digits →
    next ≡ min (min (10 * n) greatest + (d - 48)) greatest → min (number_behind next rest) greatest ≡ number_in digits
digit_more n next d rest digits h e =
    kept next (10 * n + (d - 48)) rest (grind (arith, e)) ∙ h

-- where no digit is left
pub at_end : (n : ℕ) (rest digits : List ℕ) → min (number_behind n rest) greatest ≡ number_in digits → rest ≡ [] → n ≤ greatest → n ≡ number_in digits
at_end n rest digits h e few =
    let same : min n greatest ≡ number_in digits = subst (λ z. min (number_behind n z) greatest ≡ number_in digits) e h in
    let low : min n greatest ≡ n = grind (arith, few) in
    sym low ∙ same
