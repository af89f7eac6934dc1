-- Where a word ends that goes on so far behind n bytes, or ended before them.
use Rattle.std.proofs.Common.{ℕ, ◌+◌, ◌==◌, if◌then◌else◌}

abbrev pub word_end : ℕ → ℕ → ℕ → ℕ
word_end end n rest = if rest == 0 then end else n + rest
