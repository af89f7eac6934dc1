-- The variables of terms and equations, in the order in which they stand there, each as often as it does.
use Rattle.std.specs.Prelude.{ℕ, List, [], ◌∷◌, ◌++◌}
use Rattle.spec_core.specs.Terms.{TermTree, TermTrees, variable, apply, no_terms, and_term}
use Rattle.spec_core.specs.Theories.{Premise, premise, ConditionalEquation}

abbrev mutual
  pub variables : TermTree → List ℕ
  variables (variable x) = x ∷ []
  variables (apply f ts) = all_variables ts

  pub all_variables : TermTrees → List ℕ
  all_variables no_terms = []
  all_variables (and_term t ts) = variables t ++ all_variables ts

abbrev pub premise_variables : Premise → List ℕ
premise_variables (premise a b) = variables a ++ variables b

abbrev pub premises_variables : List Premise → List ℕ
premises_variables [] = []
premises_variables (p ∷ ps) = premise_variables p ++ premises_variables ps

-- those of the premises, and then those of the right side
abbrev pub asked_variables : ConditionalEquation → List ℕ
asked_variables e = premises_variables e.premises ++ variables e.right
