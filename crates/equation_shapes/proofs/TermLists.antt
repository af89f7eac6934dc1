-- Lists of terms, one by one.
use Rattle.std.proofs.Common.{ℕ, zero, suc, ◌≡◌, ◌<◌, ◌≤◌, ◌+◌, List, [], ◌∷◌, length, map, take, get_or, add-one, sym, subst, arith, inl}
use Rattle.std.proofs.Common.{inr, ◌⊎◌}
use Rattle.std.proofs.lemmas.List.{take_all}
use Rattle.spec_core.specs.declared.term.Term.{Term}
use Rattle.spec_core.specs.Terms.{TermTree, TermTrees, no_terms, and_term, terms, term_of}

-- L says that P holds of some term
module _ (P : TermTree → Type 0) (L : TermTrees → Type 0) (nil : L no_terms → ⊥)
    (parts : (t : TermTree) (ts : TermTrees) → L (and_term t ts) → P t ⊎ L ts)
    (head : (t : TermTree) (ts : TermTrees) → P t → L (and_term t ts))
    (tail : (t : TermTree) (ts : TermTrees) → L ts → L (and_term t ts)) where
  pub some_at : (xs : List Term) (i : ℕ) (x : Term) → i < length xs → x ≡ get_or xs i x → P (term_of x) → L (terms (map term_of xs))
  some_at [] i x w a h = absurd (omega arith)
  some_at (y ∷ xs) zero x w a h = head _ _ (subst (λ t. P (term_of t)) a h)
  some_at (y ∷ xs) (suc i) x w a h = tail _ _ (some_at xs i x (omega arith) a h)

  none_suc : (xs : List Term) (i : ℕ) (x : Term) → i < length xs → x ≡ get_or xs i x → (L (terms (map term_of (take i xs))) → ⊥) →
      (P (term_of x) → ⊥) → L (terms (map term_of (take (suc i) xs))) → ⊥
  none_suc [] i x w a n h l = absurd (omega arith)
  none_suc (y ∷ xs) zero x w a n h l = elim (parts _ _ l) [ inl p ↦ h (subst (λ t. P (term_of t)) (sym a) p) | inr q ↦ nil q ]
  none_suc (y ∷ xs) (suc i) x w a n h l = elim (parts _ _ l) [ inl p ↦ n (head _ _ p) | inr q ↦ none_suc xs i x (omega arith) a (λ k. n (tail _ _ k)) h q ]

  pub none_next : (xs : List Term) (i : ℕ) (x : Term) → i < length xs → x ≡ get_or xs i x → (L (terms (map term_of (take i xs))) → ⊥) →
      (P (term_of x) → ⊥) → L (terms (map term_of (take (i + 1) xs))) → ⊥
  none_next xs i x w a n h l = none_suc xs i x w a n h (rw (← add-one) l)

  pub none_end : (xs : List Term) (i : ℕ) → length xs ≤ i → (L (terms (map term_of (take i xs))) → ⊥) → L (terms (map term_of xs)) → ⊥
  none_end xs i w n l = n (subst (λ zs. L (terms (map term_of zs))) (sym (take_all i xs w)) l)

-- L says that P holds of each term
module _ (P : TermTree → Type 0) (L : TermTrees → Type 0) (nil : L no_terms)
    (cons : (t : TermTree) (ts : TermTrees) → P t → L ts → L (and_term t ts))
    (first : (t : TermTree) (ts : TermTrees) → L (and_term t ts) → P t)
    (rest : (t : TermTree) (ts : TermTrees) → L (and_term t ts) → L ts) where
  pub each_at : (xs : List Term) (i : ℕ) (x : Term) → i < length xs → x ≡ get_or xs i x → L (terms (map term_of xs)) → P (term_of x)
  each_at [] i x w a h = absurd (omega arith)
  each_at (y ∷ xs) zero x w a h = subst (λ t. P (term_of t)) (sym a) (first _ _ h)
  each_at (y ∷ xs) (suc i) x w a h = each_at xs i x (omega arith) a (rest _ _ h)

  each_suc : (xs : List Term) (i : ℕ) (x : Term) → i < length xs → x ≡ get_or xs i x → L (terms (map term_of (take i xs))) → P (term_of x) →
      L (terms (map term_of (take (suc i) xs)))
  each_suc [] i x w a l h = absurd (omega arith)
  each_suc (y ∷ xs) zero x w a l h = cons _ _ (subst (λ t. P (term_of t)) a h) nil
  each_suc (y ∷ xs) (suc i) x w a l h = cons _ _ (first _ _ l) (each_suc xs i x (omega arith) a (rest _ _ l) h)

  pub each_more : (xs : List Term) (i : ℕ) (x : Term) → i < length xs → x ≡ get_or xs i x → L (terms (map term_of (take i xs))) →
      P (term_of x) → L (terms (map term_of (take (i + 1) xs)))
  each_more xs i x w a l h = rw add-one (each_suc xs i x w a l h)

  pub each_end : (xs : List Term) (i : ℕ) → length xs ≤ i → L (terms (map term_of (take i xs))) → L (terms (map term_of xs))
  each_end xs i w l = subst (λ zs. L (terms (map term_of zs))) (take_all i xs w) l
