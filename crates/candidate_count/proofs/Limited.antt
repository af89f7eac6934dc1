-- Numbers up to a limit, above which none are told apart.
use Rattle.std.proofs.Common.{ℕ, ◌≡◌, ◌+◌, ◌*◌, ◌-◌, ◌^◌, ◌∙◌, min, ap, arith}
use Rattle.symbolic_trees.proofs.Capped.{capped_both}
use Rattle.candidate_count.specs.Counts.{offers_limit, limited}

-- a product of numbers that are known up to the limit, as 64 bits count it
pub product_limited : (x y s r a b : ℕ) → s ≡ min (x * y) (2 ^ 64 - 1) → r ≡ limited s → x ≡ limited a → y ≡ limited b →
    r ≡ limited (a * b)
product_limited x y s r a b e f g h =
    f ∙ ap limited e ∙ wide (x * y) ∙ capped_both (offers_limit + 1) x y a b g h
  where
    wide : (n : ℕ) → limited (min n (2 ^ 64 - 1)) ≡ limited n
    wide n = omega arith
