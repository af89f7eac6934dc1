-- Counts of calls and of faults.
use Rattle.std.specs.Prelude.{ℕ, ◌+◌, ◌-◌, ◌^◌, ◌≤◌, min}

-- a count after one more; counting ends at 2^64 - 1
abbrev pub next_count : ℕ → ℕ
next_count count = min (count + 1) (2 ^ 64 - 1)

-- a count has risen; one that stands at 2^64 - 1 is taken as risen
abbrev pub Rose : ℕ → ℕ → Type 0
Rose before now = next_count before ≤ now
