-- How many turns of the search are left: a number that each turn makes smaller, so that the search ends.
use Rattle.std.specs.Prelude.{ℕ, zero, suc, ◌+◌, ◌*◌, List, [], ◌∷◌, length}
use Rattle.spec_core.specs.Terms.{TermTree, TermTrees, variable, apply, no_terms, and_term}
use Rattle.spec_core.specs.Theories.{Theory}

-- the operations in a term
abbrev mutual
  pub operations_in : TermTree → ℕ
  operations_in (variable x) = 0
  operations_in (apply f ts) = 1 + operations_in_all ts

  pub operations_in_all : TermTrees → ℕ
  operations_in_all no_terms = 0
  operations_in_all (and_term t ts) = operations_in t + operations_in_all ts

-- the operations of a row that a pattern leaves open: those that stand in the place of a variable of the pattern, or below it
abbrev mutual
  pub left_open : TermTree → TermTree → ℕ
  left_open (variable x) p = 0
  left_open (apply g rs) (variable s) = operations_in (apply g rs)
  left_open (apply g rs) (apply f ps) = left_open_in rs ps

  pub left_open_in : TermTrees → TermTrees → ℕ
  left_open_in (and_term r rs) (and_term p ps) = left_open r p + left_open_in rs ps
  left_open_in no_terms ps = 0
  left_open_in (and_term r rs) no_terms = 0

-- those of all rows
abbrev pub open_in_rows : List TermTrees → TermTrees → ℕ
open_in_rows [] ps = 0
open_in_rows (r ∷ rows) ps = left_open_in r ps + open_in_rows rows ps

-- the most turns that a pattern takes that leaves so many operations open, where a variable is replaced in so many ways
abbrev pub turns : ℕ → ℕ → ℕ
turns ways zero = 1
turns ways (suc left) = 1 + ways * turns ways left

-- the most turns that these patterns take
abbrev pub turns_left : Theory → List TermTrees → List TermTrees → ℕ
turns_left theory rows [] = 0
turns_left theory rows (ps ∷ todo) = turns (length theory.operations) (open_in_rows rows ps) + turns_left theory rows todo
