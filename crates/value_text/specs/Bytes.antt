-- The bytes of names.
use Rattle.std.specs.Prelude.{ℕ, ◌||◌, Bool, codes, nat_eq}
use Rattle.std.specs.Char.{is_ascii_alphanumeric}
use Rattle.std.specs.List.{list_any}

-- letters, digits, `_`, and the bytes of operation strings
abbrev pub is_name_byte : ℕ → Bool
is_name_byte b = is_ascii_alphanumeric b || list_any (nat_eq b) (codes "_#%&*+-./<=>@\\^~{}")
