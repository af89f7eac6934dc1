-- Equations of a type in the numbers of all sorts and operations: each number of the type's own is replaced by what stands at its place.
use Rattle.std.specs.Prelude.{ℕ, List, map}
use Rattle.std.specs.List.{slice_index_or}
use Rattle.spec_core.specs.Terms.{TermTree, TermTrees, variable, apply, no_terms, and_term}
use Rattle.spec_core.specs.Theories.{Premise, premise, ConditionalEquation}

abbrev pub number_at : List ℕ → ℕ → ℕ
number_at numbers n = slice_index_or numbers n 0

abbrev mutual
  pub moved_term : List ℕ → TermTree → TermTree
  moved_term operations (variable x) = variable x
  moved_term operations (apply f ts) = apply (number_at operations f) (moved_terms operations ts)

  pub moved_terms : List ℕ → TermTrees → TermTrees
  moved_terms operations no_terms = no_terms
  moved_terms operations (and_term t ts) = and_term (moved_term operations t) (moved_terms operations ts)

abbrev pub moved_premise : List ℕ → Premise → Premise
moved_premise operations (premise a b) = premise (moved_term operations a) (moved_term operations b)

-- names and place stay
abbrev pub moved_equation : List ℕ → List ℕ → ConditionalEquation → ConditionalEquation
moved_equation sorts operations e = record {
  premises = map (moved_premise operations) e.premises;
  left = moved_term operations e.left;
  right = moved_term operations e.right;
  sorts = map (number_at sorts) e.sorts;
  names = e.names;
  line = e.line;
  column = e.column;
}
