-- Equations that are one (this profile): their premises, their sides and the sorts of their variables are equal. Names of variables and
-- places don't count; variables go by their numbers.
use Rattle.std.specs.Prelude.{Bool, true, false, ◌&&◌, nat_eq, List, [], ◌∷◌, ◌++◌, if◌then◌else◌}
use Rattle.std.specs.List.{list_any, fold}
use Rattle.std.specs.Cmp.Lexicographic.{pointwise}
use Rattle.spec_core.specs.Terms.{TermTree, TermTrees, variable, apply, no_terms, and_term}
use Rattle.spec_core.specs.Theories.{Premise, premise, ConditionalEquation}

abbrev mutual
  pub is_same_term : TermTree → TermTree → Bool
  is_same_term (variable x) (variable y) = nat_eq x y
  is_same_term (apply f ss) (apply g ts) = nat_eq f g && are_same_terms ss ts
  is_same_term (variable x) (apply g ts) = false
  is_same_term (apply f ss) (variable y) = false

  pub are_same_terms : TermTrees → TermTrees → Bool
  are_same_terms no_terms no_terms = true
  are_same_terms (and_term s ss) (and_term t ts) = is_same_term s t && are_same_terms ss ts
  are_same_terms no_terms (and_term t ts) = false
  are_same_terms (and_term s ss) no_terms = false

abbrev pub is_same_premise : Premise → Premise → Bool
is_same_premise (premise a b) (premise c d) = is_same_term a c && is_same_term b d

abbrev pub is_same_equation : ConditionalEquation → ConditionalEquation → Bool
is_same_equation d e = is_same_term d.left e.left && is_same_term d.right e.right && pointwise is_same_premise d.premises e.premises
    && pointwise nat_eq d.sorts e.sorts

-- whether the equation is among these
abbrev pub is_in : List ConditionalEquation → ConditionalEquation → Bool
is_in all e = list_any (is_same_equation e) all

-- these and one more, unless it is there
abbrev pub with_equation : List ConditionalEquation → ConditionalEquation → List ConditionalEquation
with_equation all e = if is_in all e then all else all ++ e ∷ []

-- each equation once: the names and the place of the first stand
abbrev pub firsts : List ConditionalEquation → List ConditionalEquation
firsts all = fold with_equation [] all
