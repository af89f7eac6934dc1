-- Constructors, and the terms made of them.
use Rattle.std.specs.Prelude.{ℕ, ◌⊎◌, IsTrue}
use Rattle.std.specs.List.{slice_get}
use Rattle.spec_core.specs.Lists.{Each}
use Rattle.spec_core.specs.Terms.{TermTree, TermTrees, variable, apply, no_terms, and_term}
use Rattle.spec_core.specs.Theories.{Theory, Heads}
use Rattle.spec_core.specs.Sorts.{OnSome}

-- the declaration marks the operation as a constructor
abbrev pub IsMarked : Theory → ℕ → Type 0
IsMarked theory f = OnSome (slice_get theory.operations f) (λ d. IsTrue d.marked)

-- the operation heads no left side
abbrev pub HeadsNone : Theory → ℕ → Type 0
HeadsNone theory f = Each (λ e. Heads f e → ⊥) theory.equations

-- a constructor heads no left side, or is marked; the other operations are defined
abbrev pub IsConstructor : Theory → ℕ → Type 0
IsConstructor theory f = HeadsNone theory f ⊎ IsMarked theory f

-- a pattern: constructors and variables alone
abbrev mutual
  pub IsPattern : Theory → TermTree → Type 0
  IsPattern theory (variable x) = Unit {0}
  IsPattern theory (apply f ts) = IsConstructor theory f × ArePatterns theory ts

  pub ArePatterns : Theory → TermTrees → Type 0
  ArePatterns theory no_terms = Unit {0}
  ArePatterns theory (and_term t ts) = IsPattern theory t × ArePatterns theory ts

-- a ground constructor term: constructors alone
abbrev mutual
  pub IsConstructed : Theory → TermTree → Type 0
  IsConstructed theory (variable x) = ⊥
  IsConstructed theory (apply f ts) = IsConstructor theory f × AreConstructed theory ts

  pub AreConstructed : Theory → TermTrees → Type 0
  AreConstructed theory no_terms = Unit {0}
  AreConstructed theory (and_term t ts) = IsConstructed theory t × AreConstructed theory ts
