-- Lists of terms that a loop goes over.
use Rattle.std.proofs.Common.{ℕ, ◌≡◌, ◌<◌, ◌≤◌, ◌+◌, List, length, map, take, get_or, inl, inr, ◌⊎◌}
use Rattle.spec_core.specs.declared.term.Term.{Term}
use Rattle.spec_core.specs.Terms.{TermTree, TermTrees, terms, term_of}
use Rattle.spec_core.specs.Theories.{Theory}
use Rattle.spec_core.specs.Order.{IsInside, IsInsideAny}
use Rattle.equation_shapes.proofs.TermLists.{some_at, none_next, none_end, each_at, each_more, each_end}
use Rattle.path_order.specs.Below.{IsBelowBy, AreBelowBy}

module _ (u : TermTree) where
  abbrev Inside : TermTree → Type 0
  Inside t = (u ≡ t) ⊎ IsInside u t

  parts : (t : TermTree) (ts : TermTrees) → ((u ≡ t) ⊎ IsInside u t ⊎ IsInsideAny u ts) → Inside t ⊎ IsInsideAny u ts
  parts t ts h = elim h [ inl e ↦ inl (inl e) | inr k ↦ elim k [ inl i ↦ inl (inr i) | inr a ↦ inr a ] ]

  head : (t : TermTree) (ts : TermTrees) → Inside t → ((u ≡ t) ⊎ IsInside u t ⊎ IsInsideAny u ts)
  head t ts h = elim h [ inl e ↦ inl e | inr i ↦ inr (inl i) ]

  pub inside_at : (xs : List Term) (i : ℕ) (x : Term) → i < length xs → x ≡ get_or xs i x → (u ≡ term_of x) ⊎ IsInside u (term_of x) → IsInsideAny u (terms (map term_of xs))
  inside_at = some_at Inside (IsInsideAny u) (λ h. h) parts head (λ t ts h. inr (inr h))

  pub inside_next : (xs : List Term) (i : ℕ) (x : Term) → i < length xs → x ≡ get_or xs i x → (IsInsideAny u (terms (map term_of (take i xs))) → ⊥) → ((u ≡ term_of x) ⊎ IsInside u (term_of x) → ⊥) → IsInsideAny u (terms (map term_of (take (i + 1) xs))) → ⊥
  inside_next = none_next Inside (IsInsideAny u) (λ h. h) parts head (λ t ts h. inr (inr h))

  pub inside_end : (xs : List Term) (i : ℕ) → length xs ≤ i → (IsInsideAny u (terms (map term_of (take i xs))) → ⊥) → IsInsideAny u (terms (map term_of xs)) → ⊥
  inside_end = none_end Inside (IsInsideAny u) (λ h. h) parts head (λ t ts h. inr (inr h))

module _ (theory : Theory) (level : List ℕ) (ps : TermTrees) where
  pub below_at : (xs : List Term) (i : ℕ) (x : Term) → i < length xs → x ≡ get_or xs i x → AreBelowBy theory level ps (terms (map term_of xs)) → IsBelowBy theory level ps (term_of x)
  below_at = each_at (IsBelowBy theory level ps) (AreBelowBy theory level ps) tt (λ t ts h k. (h, k)) (λ t ts h. h.0) (λ t ts h. h.1)

  pub below_more : (xs : List Term) (i : ℕ) (x : Term) → i < length xs → x ≡ get_or xs i x → AreBelowBy theory level ps (terms (map term_of (take i xs))) → IsBelowBy theory level ps (term_of x) → AreBelowBy theory level ps (terms (map term_of (take (i + 1) xs)))
  below_more = each_more (IsBelowBy theory level ps) (AreBelowBy theory level ps) tt (λ t ts h k. (h, k)) (λ t ts h. h.0) (λ t ts h. h.1)

  pub below_end : (xs : List Term) (i : ℕ) → length xs ≤ i → AreBelowBy theory level ps (terms (map term_of (take i xs))) → AreBelowBy theory level ps (terms (map term_of xs))
  below_end = each_end (IsBelowBy theory level ps) (AreBelowBy theory level ps) tt (λ t ts h k. (h, k)) (λ t ts h. h.0) (λ t ts h. h.1)
