-- Weights of terms, by which recursions over them end.
use Rattle.std.proofs.Common.{ℕ, zero, suc, ◌≡◌, ◌<◌, ◌+◌, List, [], ◌∷◌, length, map, get_or, ap, arith}
use Rattle.spec_core.specs.declared.term.Term.{Term}
use Rattle.spec_core.specs.Terms.{TermTree, TermTrees, variable, apply, no_terms, and_term, term_of, terms}

abbrev mutual
  pub weight : TermTree → ℕ
  weight (variable x) = 1
  weight (apply f ts) = suc (weights ts)

  pub weights : TermTrees → ℕ
  weights no_terms = 0
  weights (and_term t ts) = suc (weight t + weights ts)

-- a term weighs less than the terms among which it is
pub weight_inside : (all : List Term) (i : ℕ) (t : Term) → i < length all → t ≡ get_or all i t →
    weight (term_of t) < weights (terms (map term_of all))
weight_inside [] i t h at = absurd (omega arith)
weight_inside (u ∷ us) zero t h at = let e = ap (λ (x : Term). weight (term_of x)) at in omega (arith, e)
weight_inside (u ∷ us) (suc i) t h at = let r = weight_inside us i t (omega (arith, h)) at in omega (arith, r)
