-- The value of digits grows with each digit.
use Rattle.std.proofs.Common.{ℕ, ◌+◌, ◌-◌, ◌*◌, ◌≡◌, ◌<◌, List, [], ◌∷◌, nat_le, false, arith}
use Rattle.command_words.specs.Numbers.{value_behind}

-- digits behind too great a number make none that isn't
pub too_great : (digits : List ℕ) (before greatest : ℕ) → greatest < before → nat_le (value_behind before digits) greatest ≡ false
too_great [] before greatest h = grind arith
too_great (digit ∷ digits) before greatest h =
    let more : greatest < 10 * before + (digit - 48) = omega arith in
    too_great digits (10 * before + (digit - 48)) greatest more
