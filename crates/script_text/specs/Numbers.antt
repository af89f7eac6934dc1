-- Numbers of clients, as they are written.
use Rattle.std.specs.Prelude.{ℕ, ◌+◌, ◌-◌, ◌*◌, ◌==◌, nat_le, List, [], ◌∷◌, Bool, false, not, ◌&&◌, Option, Some, None, if◌then◌else◌}
use Rattle.std.specs.Char.{is_ascii_digit}
use Rattle.std.specs.List.{list_all}

-- decimal digits without leading zeros: 48 is the digit 0
abbrev pub is_number : List ℕ → Bool
is_number [] = false
is_number (d ∷ []) = is_ascii_digit d
is_number (d ∷ e ∷ ds) = not (d == 48) && list_all is_ascii_digit (d ∷ e ∷ ds)

-- the number that digits have behind those of n
abbrev pub number_behind : ℕ → List ℕ → ℕ
number_behind n [] = n
number_behind n (d ∷ ds) = number_behind (10 * n + (d - 48)) ds

-- the client of a number from 1 to 64
abbrev pub client_within : ℕ → Option ℕ
client_within n = if nat_le 1 n && nat_le n 64 then Some n else None

-- the client that digits name, if there is one
abbrev pub client_of : List ℕ → Option ℕ
client_of [] = None
client_of (d ∷ ds) = client_within (number_behind (d - 48) ds)
