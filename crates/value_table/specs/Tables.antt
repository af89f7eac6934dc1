-- Tables of terms, and the terms for which their rows stand.
use Rattle.std.specs.Prelude.{ℕ, suc, ◌≡◌, ◌<◌, ◌≤◌, ◌⊎◌, ◌&&◌, Bool, List, [], ◌∷◌, ◌++◌, Some, length, map, nat_eq}
use Rattle.std.specs.Cmp.Lexicographic.{pointwise}
use Rattle.std.specs.List.{slice_get, slice_index_or, IsDistinct}
use Rattle.spec_core.specs.Lists.{Each}
use Rattle.spec_core.specs.Sorts.{FitsGround}
use Rattle.spec_core.specs.Terms.{TermTree, variable, apply, terms}
use Rattle.spec_core.specs.Theories.{Theory}
use Rattle.value_table.specs.declared.table.Row.{Row}

-- an operation over the terms of the rows with these numbers
pub record Application : Type 0 where
  pub op : ℕ
  pub args : List ℕ

abbrev pub application_of : Row → Application
application_of row = record { op = row.op; args = row.args.items }

-- the same operation over the same rows
abbrev pub is_same : Application → Application → Bool
is_same a b = nat_eq a.op b.op && pointwise nat_eq a.args b.args

-- the term at a place; a variable, where there is none
abbrev pub tree_in : List TermTree → ℕ → TermTree
tree_in ts i = slice_index_or ts i (variable 0)

-- what a row stands for, where those before it stand for these terms
abbrev pub row_tree : List TermTree → Application → TermTree
row_tree before row = apply row.op (terms (map (tree_in before) row.args))

-- what rows stand for, each by those before it, where the first of all stand for these terms
abbrev pub trees_after : List TermTree → List Application → List TermTree
trees_after before [] = before
trees_after before (r ∷ rs) = trees_after (before ++ row_tree before r ∷ []) rs

-- what the row of this number stands for
abbrev pub tree_at : List Application → ℕ → TermTree
tree_at rows i = tree_in (trees_after [] rows) i

-- the table has a row of this number
abbrev pub IsRow : List Application → ℕ → Type 0
IsRow rows i = i < length rows

-- each row is over rows before it, where so many are before the first of these
abbrev pub AreMade : ℕ → List Application → Type 0
AreMade before [] = Unit {0}
AreMade before (r ∷ rs) = Each (λ i. i < before) r.args × AreMade (suc before) rs

-- each row is over rows before it, and no two are the same
pub record IsTable (rows : List Application) : Type 0 where
  pub made : AreMade 0 rows
  pub distinct : IsDistinct is_same rows

-- the row is in the table, which it has lengthened where it wasn't there before
pub record HasRow (old : List Application) (row : Application) (new : List Application) (n : ℕ) : Type 0 where
  pub here : slice_get new n ≡ Some row
  pub grown : (new ≡ old) ⊎ (new ≡ old ++ row ∷ [])
  pub table : IsTable new

-- a table with more rows, in which the earlier ones stand for what they did
pub record IsLonger (old new : List Application) : Type 0 where
  pub at_least : length old ≤ length new
  pub same : (i : ℕ) → IsRow old i → tree_at new i ≡ tree_at old i

-- each row stands for a ground term of the data
abbrev pub AreFit : Theory → List Application → Type 0
AreFit theory rows = (i : ℕ) → IsRow rows i → FitsGround theory (tree_at rows i)
