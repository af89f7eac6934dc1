-- How deep terms are nested.
use Rattle.std.specs.Prelude.{ℕ, ◌+◌, max}
use Rattle.spec_core.specs.Terms.{TermTree, TermTrees, variable, apply, no_terms, and_term}

-- the depth of a term: 0 for a constant, and for an operation over arguments one more than that of the deepest of them
abbrev mutual
  pub depth : TermTree → ℕ
  depth (variable x) = 0
  depth (apply f ts) = depth_over ts

  pub depth_over : TermTrees → ℕ
  depth_over no_terms = 0
  depth_over (and_term t ts) = max (1 + depth t) (depth_over ts)
