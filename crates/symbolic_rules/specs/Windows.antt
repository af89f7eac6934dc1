-- The first values of each sort. (This profile.)
use Rattle.std.specs.Prelude.{ℕ, List, [], ◌∷◌, Bool}
use Rattle.spec_core.specs.Theories.{Theory}
use Rattle.spec_core.specs.Sorts.{IsDeclaredSort}
use Rattle.spec_core.specs.Windows.{IsWindow}
use Rattle.rule_model.specs.Meets.{result_sort}

-- of each sort its first values, and whether these are all
pub record Windows : Type 0 where
  pub values : ℕ → List (List ℕ)
  pub complete : ℕ → Bool

-- of each declared sort the first k values
abbrev pub AreWindows : Theory → ℕ → Windows → Type 0
AreWindows theory k w = (sort : ℕ) → IsDeclaredSort theory sort → IsWindow theory sort k (w.values sort) (w.complete sort)

-- the sort of a value: the result sort of its first operation
abbrev pub sort_of_value : Theory → List ℕ → ℕ
sort_of_value theory [] = 0
sort_of_value theory (f ∷ fs) = result_sort theory f
