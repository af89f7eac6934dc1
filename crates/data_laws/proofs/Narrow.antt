-- Widths of terms.
use Rattle.std.specs.Prelude.{ℕ, ◌≤◌}
use Rattle.spec_core.specs.Lists.{Each}
use Rattle.spec_core.specs.Terms.{TermTree, TermTrees, variable, apply, no_terms, and_term, width}
use Rattle.spec_core.specs.Theories.{Premise, premise, ConditionalEquation}

-- no list of arguments in a term is longer than n
abbrev mutual
  pub IsNarrow : ℕ → TermTree → Type 0
  IsNarrow n (variable x) = Unit {0}
  IsNarrow n (apply f ts) = (width ts ≤ n) × AreNarrow n ts

  pub AreNarrow : ℕ → TermTrees → Type 0
  AreNarrow n no_terms = Unit {0}
  AreNarrow n (and_term t ts) = IsNarrow n t × AreNarrow n ts

abbrev pub PremiseIsNarrow : ℕ → Premise → Type 0
PremiseIsNarrow n (premise a b) = IsNarrow n a × IsNarrow n b

abbrev pub EquationIsNarrow : ℕ → ConditionalEquation → Type 0
EquationIsNarrow n e = IsNarrow n e.right × Each (PremiseIsNarrow n) e.premises
