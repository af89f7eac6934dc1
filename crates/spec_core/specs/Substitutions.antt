-- Substitutions as the program keeps them.
use Rattle.std.specs.Prelude.{ℕ, List}
use Rattle.std.specs.List.{slice_index_or}
use Rattle.spec_core.specs.Terms.{TermTree, variable}

-- what a list of terms puts in the place of each variable; one beyond the list stays
abbrev pub substitution_of : List TermTree → ℕ → TermTree
substitution_of bound x = slice_index_or bound x (variable x)
