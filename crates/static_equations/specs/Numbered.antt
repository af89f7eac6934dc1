-- The variables of an equation are those that occur in it, numbered in the order in which they first occur: in the left side, then in
-- the premises, then in the right side.
use Rattle.std.specs.Prelude.{ℕ, nat_eq, List, [], ◌∷◌, ◌++◌, map, if◌then◌else◌}
use Rattle.std.specs.List.{list_any, fold, flat_map, filter_map, slice_get, position_or_len}
use Rattle.lotos_ast.specs.declared.place.Place.{Place}
use Rattle.spec_core.specs.Terms.{TermTree, TermTrees, variable, apply, no_terms, and_term, instance}
use Rattle.spec_core.specs.Theories.{Premise, premise, ConditionalEquation}
use Rattle.sort_overloads.specs.Readings.{Declared}

-- the variables of a term as they stand
abbrev mutual
  pub occurring : TermTree → List ℕ
  occurring (variable x) = x ∷ []
  occurring (apply f ts) = all_occurring ts

  pub all_occurring : TermTrees → List ℕ
  all_occurring no_terms = []
  all_occurring (and_term t ts) = occurring t ++ all_occurring ts

abbrev pub premise_occurring : Premise → List ℕ
premise_occurring (premise a b) = occurring a ++ occurring b

-- these and one more, unless it is there
abbrev pub with_variable : List ℕ → ℕ → List ℕ
with_variable all x = if list_any (nat_eq x) all then all else all ++ x ∷ []

-- these and what isn't there of others, in their order
abbrev pub with_variables : List ℕ → List ℕ → List ℕ
with_variables = fold with_variable

-- the variables of an equation by first occurrence
abbrev pub equation_variables : List Premise → TermTree → TermTree → List ℕ
equation_variables premises left right = with_variables [] (occurring left ++ flat_map premise_occurring premises ++ occurring right)

-- the term where each variable's number is its place among these
abbrev pub renumbered : List ℕ → TermTree → TermTree
renumbered numbers = instance (λ x. variable (position_or_len (nat_eq x) numbers))

abbrev pub premise_renumbered : List ℕ → Premise → Premise
premise_renumbered numbers (premise a b) = premise (renumbered numbers a) (renumbered numbers b)

-- those of the declared variables that have these numbers
abbrev pub variables_at : List Declared → List ℕ → List Declared
variables_at declared numbers = filter_map (slice_get declared) numbers

-- the equation over the variables of these numbers
abbrev pub equation_over : List Declared → Place → List ℕ → List Premise → TermTree → TermTree → ConditionalEquation
equation_over declared place numbers premises left right = record {
  premises = map (premise_renumbered numbers) premises;
  left = renumbered numbers left;
  right = renumbered numbers right;
  sorts = map (λ v. v.sort) (variables_at declared numbers);
  names = map (λ v. v.name) (variables_at declared numbers);
  line = place.line;
  column = place.column;
}

-- the equation of terms over declared variables
abbrev pub equation_of_terms : List Declared → Place → List Premise → TermTree → TermTree → ConditionalEquation
equation_of_terms declared place premises left right =
    equation_over declared place (equation_variables premises left right) premises left right
