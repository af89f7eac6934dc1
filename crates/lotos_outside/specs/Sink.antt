-- What a sink has taken.
use Rattle.std.specs.Prelude.{ℕ, ◌≡◌, List, ◌++◌, Option, option_map, take}

-- what a sink has taken, where it tells it, with these bytes behind it
abbrev pub with_more : List ℕ → Option (List ℕ) → Option (List ℕ)
with_more bytes written = option_map (λ held. held ++ bytes) written

-- a prefix of the text was written behind what the sink had taken, and nothing else
abbrev pub AppendsPrefix : List ℕ → Option (List ℕ) → Option (List ℕ) → Type 0
AppendsPrefix text before now = (count : ℕ) × (now ≡ with_more (take count text) before)

-- A sink in memory: what was written; the numbers of the calls that fail; how many calls there were; and how many
-- faults.
pub record SinkState : Type 0 where
  pub written : List ℕ
  pub fails : List ℕ
  pub calls : ℕ
  pub faults : ℕ
