-- New names of variables, as a table.
use Rattle.std.specs.Prelude.{ℕ, List}
use Rattle.std.specs.List.{slice_index_or}
use Rattle.spec_core.specs.Terms.{TermTree, TermTrees, variable, instance, instances}

-- the new name of a variable; one that the table doesn't reach keeps its own
abbrev pub new_name : List ℕ → ℕ → ℕ
new_name names x = slice_index_or names x x

-- the term with its variables renamed
abbrev pub renamed_term : (ℕ → ℕ) → TermTree → TermTree
renamed_term n t = instance (λ x. variable (n x)) t

abbrev pub renamed_terms : (ℕ → ℕ) → TermTrees → TermTrees
renamed_terms n ts = instances (λ x. variable (n x)) ts
