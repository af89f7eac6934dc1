-- The sort of a term, by its head.
use Rattle.std.specs.Prelude.{ℕ, Option, option_map}
use Rattle.std.specs.List.{slice_get}
use Rattle.spec_core.specs.Terms.{TermTree, variable, apply}
use Rattle.spec_core.specs.Theories.{Operation, Theory}

abbrev pub result_of : Operation → ℕ
result_of d = d.result

-- the sort that a term with these sorts of its variables has, if it has one
abbrev pub head_sort : Theory → (ℕ → Option ℕ) → TermTree → Option ℕ
head_sort theory vars (variable x) = vars x
head_sort theory vars (apply f ts) = option_map result_of (slice_get theory.operations f)
