-- Constructors that have values, and patterns of constructors.
use Rattle.std.specs.Prelude.{ℕ, ◌≡◌}
use Rattle.spec_core.specs.Lists.{Each}
use Rattle.spec_core.specs.Terms.{TermTree, TermTrees, variable, apply, no_terms, and_term}
use Rattle.spec_core.specs.Theories.{Operation, Theory}
use Rattle.spec_core.specs.Constructors.{IsConstructor}
use Rattle.cover_search.specs.Sorts.{IsInhabited}

-- the operation c, declared as d, is a constructor of the sort that has values: each of its argument sorts is inhabited
abbrev pub IsMaker : Theory → ℕ → ℕ → Operation → Type 0
IsMaker theory sort c d = IsConstructor theory c × (d.result ≡ sort) × Each (IsInhabited theory) d.args

-- a pattern of constructors, over variables of inhabited sorts
abbrev mutual
  pub IsMade : Theory → TermTree → Type 0
  IsMade theory (variable s) = IsInhabited theory s
  IsMade theory (apply c ts) = IsConstructor theory c × AreMade theory ts

  pub AreMade : Theory → TermTrees → Type 0
  AreMade theory no_terms = Unit {0}
  AreMade theory (and_term t ts) = IsMade theory t × AreMade theory ts
