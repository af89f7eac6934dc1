-- Which of the unseen actions is done. (This profile.)
use Rattle.std.specs.Prelude.{ℕ, ◌+◌, ◌*◌, ◌/◌, ◌%◌}
use Rattle.run_settings.specs.declared.settings.Draw.{Draw}
use Rattle.run_settings.specs.declared.settings.Draw.TheVariants.{Rotation, Squares}

-- a number below 2^64 with its halves of 32 bits exchanged
abbrev pub exchanged : ℕ → ℕ
exchanged x = x % 4294967296 * 4294967296 + x / 4294967296

-- the square of a number with another one added, below 2^64
abbrev pub squared : ℕ → ℕ → ℕ
squared x y = (x * x + y) % 18446744073709551616

-- a factor whose digits are all different, as a key of Widynski's squares has them
abbrev pub key : ℕ
key = 6092418036032492183

-- the seed and the number of actions in one number, times the key
abbrev pub counted : ℕ → ℕ → ℕ
counted seed actions = (seed * 4294967296 + actions) * key % 18446744073709551616

-- four rounds of squaring, with x and the number behind it in turn; the upper half of the last
abbrev pub rounds : ℕ → ℕ → ℕ
rounds x z = squared (exchanged (squared (exchanged (squared (exchanged (squared x x)) z)) x)) z / 4294967296

abbrev pub squares : ℕ → ℕ → ℕ
squares seed actions = rounds (counted seed actions) ((counted seed actions + key) % 18446744073709551616)

-- the seed and the number of actions before it, mixed to a number below 2^32
abbrev pub mixed : Draw → ℕ → ℕ → ℕ
mixed Rotation seed actions = ((seed + actions + 1) * 2654435769) % 4294967296
mixed Squares seed actions = squares seed actions

-- Of so many the one with this number, from 0: as great a part of them as the mixed number is of 2^32.
abbrev pub drawn : Draw → ℕ → ℕ → ℕ → ℕ
drawn draw seed actions count = mixed draw seed actions * count / 4294967296
