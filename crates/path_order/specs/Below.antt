-- The path order as it is decided: by the operations that depend on a left side's.
use Rattle.std.specs.Prelude.{ℕ, ◌⊎◌, List}
use Rattle.spec_core.specs.Lists.{IsOneOf}
use Rattle.spec_core.specs.Terms.{TermTree, TermTrees, variable, apply, no_terms, and_term}
use Rattle.spec_core.specs.Theories.{Theory}
use Rattle.spec_core.specs.Constructors.{IsMarked}
use Rattle.spec_core.specs.Order.{IsInsideAny, IsSmaller}

-- the term is below the left side f(ps), where `level` has the operations that depend on f, and f depends on each of the term's
abbrev mutual
  pub IsBelowBy : Theory → List ℕ → TermTrees → TermTree → Type 0
  IsBelowBy theory level ps (variable x) = IsInsideAny (variable x) ps
  IsBelowBy theory level ps (apply g ts) =
      IsInsideAny (apply g ts) ps ⊎ AreBelowBy theory level ps ts × ((IsOneOf g level → ⊥) ⊎ IsSmaller ts ps ⊎ IsMarked theory g)

  pub AreBelowBy : Theory → List ℕ → TermTrees → TermTrees → Type 0
  AreBelowBy theory level ps no_terms = Unit {0}
  AreBelowBy theory level ps (and_term t ts) = IsBelowBy theory level ps t × AreBelowBy theory level ps ts
