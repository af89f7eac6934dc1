-- Images of equations under new numbers of sorts and operations. Variables, their names and the place stay.
use Rattle.std.specs.Prelude.{ℕ, List, map}
use Rattle.std.specs.List.{slice_index_or}
use Rattle.spec_core.specs.Terms.{TermTree, TermTrees, variable, apply, no_terms, and_term}
use Rattle.spec_core.specs.Theories.{Premise, premise, ConditionalEquation}

-- a new number for each sort and each operation, in the order of the old numbers
pub record NewNumbers : Type 0 where
  pub sorts : List ℕ
  pub operations : List ℕ

-- what has no new number keeps its own
abbrev pub new_number : List ℕ → ℕ → ℕ
new_number news n = slice_index_or news n n

-- a term with new numbers of operations
abbrev mutual
  pub term_image : List ℕ → TermTree → TermTree
  term_image news (variable x) = variable x
  term_image news (apply f ts) = apply (new_number news f) (term_images news ts)

  pub term_images : List ℕ → TermTrees → TermTrees
  term_images news no_terms = no_terms
  term_images news (and_term t ts) = and_term (term_image news t) (term_images news ts)

abbrev pub premise_image : List ℕ → Premise → Premise
premise_image news (premise a b) = premise (term_image news a) (term_image news b)

abbrev pub equation_image : NewNumbers → ConditionalEquation → ConditionalEquation
equation_image news e = record {
  premises = map (premise_image news.operations) e.premises;
  left = term_image news.operations e.left;
  right = term_image news.operations e.right;
  sorts = map (new_number news.sorts) e.sorts;
  names = e.names;
  line = e.line;
  column = e.column;
}
