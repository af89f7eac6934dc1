-- A chain of cells, from left to right.
use Rattle.std.specs.Prelude.{ℕ, ◌+◌, List, [], ◌++◌, codes, nat_lt, if◌then◌else◌}
use Rattle.spec_generator.specs.Specifications.{cell, meeting}

-- what stands between cell j of n and the next one
abbrev pub between : ℕ → ℕ → List ℕ
between n j = meeting j ++ (if nat_lt (j + 1) n then codes "(" else [])

-- cell j of n, and what stands between it and the next one
abbrev pub link : ℕ → ℕ → List ℕ
link n j = cell j ++ between n j
