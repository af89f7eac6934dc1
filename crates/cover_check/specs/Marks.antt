-- One more operation looked at.
use Rattle.std.specs.Prelude.{ℕ, ◌≡◌, ◌⊎◌, ◌<◌, List, length, Bool}
use Rattle.equation_sets.specs.Members.{IsIn}
use Rattle.spec_core.specs.Cover.{IsPartial}
use Rattle.spec_core.specs.Theories.{Theory}

-- the operation was put into the set, if it is partial and the set has room for its number
pub record IsMarked (theory : Theory) (f : ℕ) (old new : List Bool) : Type 0 where
  pub kept : (n : ℕ) → IsIn n old → IsIn n new
  pub only : (n : ℕ) → IsIn n new → IsIn n old ⊎ ((n ≡ f) × IsPartial theory f)
  pub marked : f < length old → IsPartial theory f → IsIn f new
  pub sized : length new ≡ length old
