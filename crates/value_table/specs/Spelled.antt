-- Ground terms as lists of operations.
use Rattle.std.specs.Prelude.{ℕ, ◌≡◌, List, map, reverse}
use Rattle.spec_core.specs.Lists.{Each}
use Rattle.spec_core.specs.Sorts.{FitsGround}
use Rattle.spec_core.specs.Terms.{TermTree, preorder, preorders, terms}
use Rattle.spec_core.specs.Theories.{Theory}
use Rattle.value_table.specs.Tables.{Application, tree_at}

-- the operations of a ground term of the data, in preorder
abbrev pub SpellsOne : Theory → List ℕ → Type 0
SpellsOne theory fs = (t : TermTree) × FitsGround theory t × (fs ≡ preorder t)

-- those of some ground terms, one after another
abbrev pub SpellsSome : Theory → List ℕ → Type 0
SpellsSome theory fs = (ts : List TermTree) × Each (FitsGround theory) ts × (fs ≡ preorders (terms ts))

-- the operations of the terms of rows, the last row first
abbrev pub spelled_from_last : List Application → List ℕ → List ℕ
spelled_from_last rows numbers = preorders (terms (map (tree_at rows) (reverse numbers)))
