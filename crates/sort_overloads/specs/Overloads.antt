-- None, one or several readings of an expression.
use Rattle.std.specs.Prelude.{ℕ, ◌≡◌, ◌⊎◌, Option, Some, None}
use Rattle.spec_core.specs.declared.items.Sort.{Sort}
use Rattle.spec_core.specs.Terms.{TermTree, preorder}
use Rattle.spec_core.specs.Windows.{IsBefore}
use Rattle.sort_overloads.specs.Expressions.{Expression}
use Rattle.sort_overloads.specs.Readings.{Context, IsReading}

-- no sort is asked for, or this one
abbrev pub IsWanted : Option Sort → ℕ → Type 0
IsWanted None sort = Unit {0}
IsWanted (Some wanted) sort = wanted.0 ≡ sort

-- no reading is of a wanted sort
abbrev pub HasNoReading : Context → Expression → Option Sort → Type 0
HasNoReading c e wanted = (t : TermTree) (sort : ℕ) → IsWanted wanted sort → IsReading c e t sort → ⊥

-- the term is the only reading of a wanted sort, and is of this sort
pub record IsOnlyReading (c : Context) (e : Expression) (wanted : Option Sort) (t : TermTree) (sort : ℕ) : Type 0 where
  pub wanted_sort : IsWanted wanted sort
  pub reading : IsReading c e t sort
  pub only : (u : TermTree) (other : ℕ) → IsWanted wanted other → IsReading c e u other → (u ≡ t) × (other ≡ sort)

-- The terms are readings of wanted sorts, the first comes before the second by the list of its operations in preorder, and each
-- other one comes after both.
pub record AreFirstReadings (c : Context) (e : Expression) (wanted : Option Sort) (a b : TermTree) : Type 0 where
  pub first_sort : ℕ
  pub first_wanted : IsWanted wanted first_sort
  pub first : IsReading c e a first_sort
  pub second_sort : ℕ
  pub second_wanted : IsWanted wanted second_sort
  pub second : IsReading c e b second_sort
  pub in_order : IsBefore (preorder a) (preorder b)
  pub others : (u : TermTree) (sort : ℕ) → IsWanted wanted sort → IsReading c e u sort →
      (u ≡ a) ⊎ (u ≡ b) ⊎ IsBefore (preorder b) (preorder u)
