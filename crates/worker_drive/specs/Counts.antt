-- Counts of jobs.
use Rattle.std.specs.Prelude.{ℕ, ◌+◌, ◌-◌, ◌^◌, min, max}

-- a count after k more, at most 2^64 - 1: there a count rises no further
abbrev pub raised_by : ℕ → ℕ → ℕ
raised_by k count = max count (min (count + k) (2 ^ 64 - 1))
