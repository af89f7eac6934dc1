-- The script for a chain of cells: one client puts a number in before the first cell, and takes it out behind the last one, as often as there
-- are cells.
use Rattle.std.specs.Prelude.{ℕ, zero, suc, List, ◌++◌, codes, flat_map}
use Rattle.std.specs.List.{range_with_len}
use Rattle.spec_generator.specs.Numbers.{draw, number_of}
use Rattle.spec_generator.specs.Specifications.{gate}

-- so many times Succ round 0
abbrev pub numeral : ℕ → List ℕ
numeral zero = codes "0"
numeral (suc k) = codes "Succ(" ++ numeral k ++ codes ")"

-- the lines by which a number goes in before n cells, and a number comes out behind them
abbrev pub pair : ℕ → ℕ → List ℕ
pair n k = codes "1: g0 !" ++ numeral k ++ codes "\n1: " ++ gate n ++ codes " ?Nat\n"

-- the whole text, for n cells: pair j brings what is drawn from number j of the seed
abbrev pub script_text : ℕ → ℕ → List ℕ
script_text seed n = flat_map (λ j. pair n (draw (number_of seed j))) (range_with_len 1 n)
