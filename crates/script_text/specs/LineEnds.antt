-- Where lines end.
use Rattle.std.specs.Prelude.{ℕ, ◌==◌, Bool}

-- 10 is LF
abbrev pub is_line_feed : ℕ → Bool
is_line_feed b = b == 10
