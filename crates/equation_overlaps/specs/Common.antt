-- The common instance of two left sides, and how it is written. (This profile.)
use Rattle.std.specs.Prelude.{ℕ, ◌+◌, List, ◌++◌, length, map, codes}
use Rattle.spec_core.specs.Terms.{TermTree, TermTrees, variable, apply, no_terms, and_term, instance}
use Rattle.spec_core.specs.TermText.{term_text}
use Rattle.spec_core.specs.Theories.{ConditionalEquation, Theory}

-- the term with n added to the number of each variable
abbrev pub shifted : ℕ → TermTree → TermTree
shifted n t = instance (λ y. variable (n + y)) t

-- where two variables meet, the first term's; where a variable meets another term, that term. Variables of the second term that stay have
-- n added to their numbers
abbrev mutual
  pub common_instance : ℕ → TermTree → TermTree → TermTree
  common_instance n (variable x) (variable y) = variable x
  common_instance n (variable x) (apply g qs) = shifted n (apply g qs)
  common_instance n (apply f ps) (variable y) = apply f ps
  common_instance n (apply f ps) (apply g qs) = apply f (common_instances n ps qs)

  pub common_instances : ℕ → TermTrees → TermTrees → TermTrees
  common_instances n (and_term p ps) (and_term q qs) = and_term (common_instance n p q) (common_instances n ps qs)
  common_instances n (and_term p ps) no_terms = no_terms
  common_instances n no_terms qs = no_terms

-- the names of its variables: those of the earlier equation, and those of the later one with `'` after them
abbrev pub primed : List ℕ → List ℕ
primed name = name ++ codes "'"

abbrev pub common_names : ConditionalEquation → ConditionalEquation → List (List ℕ)
common_names earlier later = earlier.names ++ map primed later.names

-- the text of the common instance of an earlier equation's left side and a later one's
abbrev pub common_text : Theory → ConditionalEquation → ConditionalEquation → List ℕ
common_text theory earlier later =
    term_text theory.sorts theory.operations (common_names earlier later) (common_instance (length earlier.names) earlier.left later.left)
