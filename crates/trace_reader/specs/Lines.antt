-- Lines of a text.
use Rattle.std.specs.Prelude.{ℕ, ◌≡◌, ◌==◌, ◌++◌, Bool, not, true, List, codes, flat_map}
use Rattle.spec_core.specs.Lists.{Each}

-- 10 is LF
abbrev pub is_no_line_feed : ℕ → Bool
is_no_line_feed b = not (b == 10)

-- no line ends in it
abbrev pub IsOneLine : List ℕ → Type 0
IsOneLine bytes = Each (λ b. is_no_line_feed b ≡ true) bytes

-- lines, each with the LF that ends it
abbrev pub lines_text : List (List ℕ) → List ℕ
lines_text lines = flat_map (λ line. line ++ codes "\n") lines
