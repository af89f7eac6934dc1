-- Numbers among the words (this profile).
use Rattle.std.specs.Prelude.{ℕ, ◌+◌, ◌*◌, ◌-◌, List, [], ◌∷◌, Bool, false, ◌&&◌, nat_le, if◌then◌else◌}
use Rattle.std.specs.Prelude.{Option, Some, None, option_and_then}
use Rattle.std.specs.Char.{is_ascii_digit}
use Rattle.std.specs.List.{list_all}
use Rattle.clap.specs.Walk.{Row, first_of}

-- the value of decimal digits behind others
abbrev pub value_behind : ℕ → List ℕ → ℕ
value_behind before [] = before
value_behind before (digit ∷ digits) = value_behind (10 * before + (digit - 48)) digits

-- one or more decimal digits
abbrev pub is_number : List ℕ → Bool
is_number [] = false
is_number (digit ∷ digits) = list_all is_ascii_digit (digit ∷ digits)

-- the number that a word gives: decimal digits whose value lies between these two
abbrev pub number_within : ℕ → ℕ → List ℕ → Option ℕ
number_within least greatest word =
    if is_number word && (nat_le least (value_behind 0 word) && nat_le (value_behind 0 word) greatest)
    then Some (value_behind 0 word) else None

-- the number that the word gives that `clap` finds under a name
abbrev pub number_at : List ℕ → ℕ → ℕ → List Row → Option ℕ
number_at id least greatest rows = option_and_then (number_within least greatest) (first_of id rows)
