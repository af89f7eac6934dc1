-- Classes of bytes. A byte is a number; codes gives the bytes of an ASCII text.
use Rattle.std.specs.Prelude.{ℕ, ◌==◌, List, [], ◌∷◌, Bool, ◌||◌, codes}
use Rattle.std.specs.List.{list_any}
use Rattle.std.specs.Char.{is_ascii_alphanumeric}

-- whether a byte is one of these
abbrev pub is_one_of : List ℕ → ℕ → Bool
is_one_of bytes b = list_any (λ c. c == b) bytes

-- blank, tab, LF and CR, which part tokens
abbrev pub is_blank : ℕ → Bool
is_blank b = is_one_of (32 ∷ 9 ∷ 10 ∷ 13 ∷ []) b

-- letters and digits
abbrev pub is_letter_or_digit : ℕ → Bool
is_letter_or_digit b = is_ascii_alphanumeric b

-- the low line, `_`
abbrev pub is_low_line : ℕ → Bool
is_low_line b = b == 95

-- what words of a comment are made of
abbrev pub is_word_byte : ℕ → Bool
is_word_byte b = is_letter_or_digit b || is_low_line b

-- what names of operations are made of, beside words (ISO 8807, special characters)
abbrev pub is_operation_byte : ℕ → Bool
is_operation_byte b = is_one_of (codes "#%&*+-./<=>@\\^~{}") b
