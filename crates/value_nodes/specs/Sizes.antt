-- Sizes of values. (This profile.)
use Rattle.std.specs.Prelude.{ℕ, ◌<◌, length}
use Rattle.spec_core.specs.Terms.{TermTree, preorder}

-- the number of symbols of a ground term
abbrev pub symbols : TermTree → ℕ
symbols t = length (preorder t)

-- the greatest number of symbols of a value is 65,536
abbrev pub IsTooLarge : TermTree → Type 0
IsTooLarge t = 65536 < symbols t
