-- The equations that each operation heads, in their order.
use Rattle.std.specs.Prelude.{ℕ, ◌≡◌, ◌<◌, ◌≤◌, List, length}
use Rattle.std.specs.List.{slice_index_or}
use Rattle.spec_core.specs.Theories.{Theory, Heads}
use Rattle.rewriter.specs.declared.heads.FirstEquations.{FirstEquations}
use Rattle.rewriter.specs.Steps.{equation_at, bound_at}

-- the first equation of an operation; the number of equations where it heads none
abbrev pub first_at : Theory → List ℕ → ℕ → ℕ
first_at theory first f = slice_index_or first f (length theory.equations)

-- of the equations from this one on: each operation's first one, and after each equation the next one with the same head; the
-- number of equations where there is none
pub record AreLinked (theory : Theory) (from : ℕ) (first next : List ℕ) : Type 0 where
  pub as_many : length first ≡ length theory.operations
  pub as_long : length next ≡ length theory.equations
  pub from_first : (f j : ℕ) → from ≤ j → j < length theory.equations → Heads f (equation_at theory j) → first_at theory first f ≤ j
  pub after_from : (f : ℕ) → first_at theory first f < length theory.equations → from ≤ first_at theory first f
  pub first_heads : (f : ℕ) → first_at theory first f < length theory.equations → Heads f (equation_at theory (first_at theory first f))
  pub from_next :
      (f i j : ℕ) → from ≤ i → i < j → j < length theory.equations → Heads f (equation_at theory i) → Heads f (equation_at theory j) →
      bound_at next i ≤ j
  pub next_heads :
      (f i : ℕ) → from ≤ i → i < length theory.equations → bound_at next i < length theory.equations → Heads f (equation_at theory i) →
      Heads f (equation_at theory (bound_at next i))
  pub onward : (i : ℕ) → from ≤ i → i < length theory.equations → i < bound_at next i

-- the same of all equations
abbrev pub IsIndex : Theory → FirstEquations → Type 0
IsIndex theory h = AreLinked theory 0 h.first.items h.next.items
