-- Lists of operations that spell terms.
use Rattle.std.specs.Prelude.{ℕ, ◌≡◌, List}
use Rattle.spec_core.specs.Sorts.{HasSort, no_variables}
use Rattle.spec_core.specs.Terms.{TermTree, preorder}
use Rattle.spec_core.specs.Theories.{Theory}

-- the list of operations spells the term, which is of the sort
pub record SpellsTerm (theory : Theory) (v : List ℕ) (t : TermTree) (sort : ℕ) : Type 0 where
  pub spelled : v ≡ preorder t
  pub of_sort : HasSort theory no_variables t sort
