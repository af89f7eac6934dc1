-- The numbers that a seed gives.
use Rattle.std.specs.Prelude.{ℕ, zero, suc, ◌+◌, ◌*◌, ◌/◌, ◌%◌, ◌^◌}

-- the number behind this one: a linear congruence
abbrev pub next : ℕ → ℕ
next x = (x * 1103515245 + 12345) % 2 ^ 31

-- number j of a seed; number 0 is the seed's lowest 31 bits
abbrev pub number_of : ℕ → ℕ → ℕ
number_of seed zero = seed % 2 ^ 31
number_of seed (suc j) = next (number_of seed j)

-- two bits of a number: 0 to 3
abbrev pub draw : ℕ → ℕ
draw x = x / 65536 % 4
