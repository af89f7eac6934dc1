-- Induction over lists of terms, by the first difference.
use Rattle.std.proofs.Common.{ℕ, zero, suc, ◌≤◌, sym, subst, arith, inl, inr}
use Rattle.spec_core.specs.Terms.{TermTree, TermTrees, variable, apply, no_terms, and_term, width}
use Rattle.spec_core.specs.Order.{IsInside, IsInsideAny, IsSmaller}

-- induction over proper subterms
module _ (P : TermTree → Type 0) (step : (t : TermTree) → ((u : TermTree) → IsInside u t → P u) → P t) where
  mutual
    inside : (t u : TermTree) → IsInside u t → P u
    inside (variable x) u h = absurd h
    inside (apply f ts) u h = inside_any ts u h

    inside_any : (ts : TermTrees) (u : TermTree) → IsInsideAny u ts → P u
    inside_any no_terms u h = absurd h
    inside_any (and_term t ts) u (inl e) = subst P (sym e) (step t (inside t))
    inside_any (and_term t ts) u (inr (inl h)) = inside t u h
    inside_any (and_term t ts) u (inr (inr h)) = inside_any ts u h

  pub by_inside : (t : TermTree) → P t
  by_inside t = step t (inside t)

-- a list from which each way down ends; each list below it has at most n terms
pub data IsLow (n : ℕ) : TermTrees → Type 0 where
  low : (vs : TermTrees) → ((ws : TermTrees) → width ws ≤ n → IsSmaller ws vs → IsLow n ws) → IsLow n vs

below_head : (n : ℕ) (v : TermTree) →
    ((u : TermTree) → IsInside u v → (rest : TermTrees) → width rest ≤ n → IsLow (suc n) (and_term u rest)) → (rest : TermTrees) →
    IsLow n rest → IsLow (suc n) (and_term v rest)
below_head n v shorter rest (low rest' deeper) = low (and_term v rest') (go rest' (λ ws w s. below_head n v shorter ws (deeper ws w s)))
  where
    go : (rest : TermTrees) → ((ws : TermTrees) → width ws ≤ n → IsSmaller ws rest → IsLow (suc n) (and_term v ws)) → (ws : TermTrees) →
        width ws ≤ suc n → IsSmaller ws (and_term v rest) → IsLow (suc n) ws
    go rest deeper no_terms w h = absurd h
    go rest deeper (and_term u ws) w (inl h) = shorter u h ws (omega arith)
    go rest deeper (and_term u ws) w (inr h) = subst (λ z. IsLow (suc n) (and_term z ws)) (sym h.0) (deeper ws (omega arith) h.1)

pub all_low : (n : ℕ) (vs : TermTrees) → width vs ≤ n → IsLow n vs
all_low n no_terms h = low no_terms (λ ws w s. absurd (none ws s))
  where
    none : (ws : TermTrees) → IsSmaller ws no_terms → ⊥
    none no_terms s = s
    none (and_term w ws) s = s
all_low zero (and_term v rest) h = absurd (omega arith)
all_low (suc n) (and_term v rest) h =
    by_inside (λ v. (rest : TermTrees) → width rest ≤ n → IsLow (suc n) (and_term v rest))
    (λ v shorter rest w. below_head n v shorter rest (all_low n rest w)) v rest (omega arith)
