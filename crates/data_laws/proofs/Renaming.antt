-- A renaming, and then a substitution.
use Rattle.std.proofs.Common.{ℕ, ◌≡◌, refl, ap}
use Rattle.spec_core.specs.Terms.{TermTree, TermTrees, variable, apply, no_terms, and_term, instance, instances}

module _ (r : ℕ → ℕ) (z : ℕ → TermTree) where
  mutual
    pub after : (t : TermTree) → instance z (instance (λ x. variable (r x)) t) ≡ instance (λ x. z (r x)) t
    after (variable x) = refl
    after (apply f ts) = ap (apply f) (after_all ts)

    after_all : (ts : TermTrees) → instances z (instances (λ x. variable (r x)) ts) ≡ instances (λ x. z (r x)) ts
    after_all no_terms = refl
    after_all (and_term t ts) =
        let a = after t in
        let b = after_all ts in
        cc
