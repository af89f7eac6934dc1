-- Two lists of terms, pair by pair.
use Rattle.std.proofs.Common.{ℕ, zero, suc, ◌≡◌, ◌<◌, ◌≤◌, ◌+◌, List, [], ◌∷◌, length, map, take, get_or, add-one, refl, ap, sym, subst}
use Rattle.std.proofs.Common.{arith}
use Rattle.std.proofs.lemmas.List.{take_all}
use Rattle.spec_core.specs.declared.term.Term.{Term}
use Rattle.spec_core.specs.Terms.{TermTree, TermTrees, no_terms, and_term, terms, term_of}

module _ (R : TermTree → TermTree → Type 0) (L : TermTrees → TermTrees → Type 0) (nil : L no_terms no_terms)
    (cons : (t u : TermTree) (ts us : TermTrees) → R t u → L ts us → L (and_term t ts) (and_term u us))
    (head : (t u : TermTree) (ts us : TermTrees) → L (and_term t ts) (and_term u us) → R t u)
    (tail : (t u : TermTree) (ts us : TermTrees) → L (and_term t ts) (and_term u us) → L ts us)
    (short : (t : TermTree) (ts : TermTrees) → L (and_term t ts) no_terms → ⊥)
    (long : (t : TermTree) (ts : TermTrees) → L no_terms (and_term t ts) → ⊥) where
  pub lengths : (xs ys : List Term) → L (terms (map term_of xs)) (terms (map term_of ys)) → length xs ≡ length ys
  lengths [] [] h = refl
  lengths [] (y ∷ ys) h = absurd (long _ _ h)
  lengths (x ∷ xs) [] h = absurd (short _ _ h)
  lengths (x ∷ xs) (y ∷ ys) h = ap suc (lengths xs ys (tail _ _ _ _ h))

  pub pair_at : (xs ys : List Term) (i : ℕ) (x y : Term) → L (terms (map term_of xs)) (terms (map term_of ys)) → i < length xs →
      x ≡ get_or xs i x → y ≡ get_or ys i y → R (term_of x) (term_of y)
  pair_at [] ys i x y h w a b = absurd (omega arith)
  pair_at (z ∷ xs) [] i x y h w a b = absurd (short _ _ h)
  pair_at (z ∷ xs) (u ∷ ys) zero x y h w a b = subst (λ t. R (term_of t) (term_of y)) (sym a) (subst (λ t. R (term_of z) (term_of t)) (sym b) (head _ _ _ _ h))
  pair_at (z ∷ xs) (u ∷ ys) (suc i) x y h w a b = pair_at xs ys i x y (tail _ _ _ _ h) (omega arith) a b

  pairs_suc : (xs ys : List Term) (i : ℕ) (x y : Term) → L (terms (map term_of (take i xs))) (terms (map term_of (take i ys))) →
      i < length xs → i < length ys → x ≡ get_or xs i x → y ≡ get_or ys i y → R (term_of x) (term_of y) →
      L (terms (map term_of (take (suc i) xs))) (terms (map term_of (take (suc i) ys)))
  pairs_suc [] ys i x y h w v a b r = absurd (omega arith)
  pairs_suc (z ∷ xs) [] i x y h w v a b r = absurd (omega arith)
  pairs_suc (z ∷ xs) (u ∷ ys) zero x y h w v a b r = cons _ _ _ _ (subst (λ t. R (term_of t) (term_of u)) a (subst (λ t. R (term_of x) (term_of t)) b r)) nil
  pairs_suc (z ∷ xs) (u ∷ ys) (suc i) x y h w v a b r = cons _ _ _ _ (head _ _ _ _ h) (pairs_suc xs ys i x y (tail _ _ _ _ h) (omega arith) (omega arith) a b r)

  pub pairs_next : (xs ys : List Term) (i : ℕ) (x y : Term) → L (terms (map term_of (take i xs))) (terms (map term_of (take i ys))) →
      i < length xs → i < length ys → x ≡ get_or xs i x → y ≡ get_or ys i y → R (term_of x) (term_of y) →
      L (terms (map term_of (take (i + 1) xs))) (terms (map term_of (take (i + 1) ys)))
  pairs_next xs ys i x y h w v a b r = rw add-one (pairs_suc xs ys i x y h w v a b r)

  pub pairs_end : (xs ys : List Term) (i : ℕ) → L (terms (map term_of (take i xs))) (terms (map term_of (take i ys))) → length xs ≤ i →
      length xs ≡ length ys → L (terms (map term_of xs)) (terms (map term_of ys))
  pairs_end xs ys i h w e = subst (λ zs. L (terms (map term_of zs)) (terms (map term_of ys))) (take_all i xs w) (subst (λ zs. L (terms (map term_of (take i xs))) (terms (map term_of zs))) (take_all i ys (omega (arith, e))) h)
