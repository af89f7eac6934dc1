-- The sides of an equation, and the first of which something doesn't hold.
use Rattle.std.proofs.Common.{ℕ, zero, suc, ◌≡◌, ◌<◌, ◌≤◌, ◌+◌, List, [], ◌∷◌, ◌++◌, length, map, take, get_or, add-one, refl, subst, arith}
use Rattle.std.proofs.Common.{inl, inr, ◌⊎◌}
use Rattle.std.proofs.lemmas.List.{take_all}
use Rattle.spec_core.specs.declared.term.Term.{Term}
use Rattle.spec_core.specs.Lists.{Each, IsOneOf}
use Rattle.spec_core.specs.Order.{HasOperation, PremisesHaveOperation, IsBelow, PremiseIsBelow, Decreases}
use Rattle.spec_core.specs.Terms.{TermTree, TermTrees, term_of}
use Rattle.spec_core.specs.Theories.{Premise, premise, Theory, ConditionalEquation, premise_of}
use Rattle.path_order.specs.Decrease.{IsFirstNot, sides, premise_sides}

-- the first of which P doesn't hold is that of which Q doesn't, where both hold of the same
module _ (P Q : TermTree → Type 0) where
  pub first_alike : (xs : List TermTree) (t : TermTree) →
      ((x : TermTree) → IsOneOf x xs → P x → Q x) → ((x : TermTree) → IsOneOf x xs → Q x → P x) → IsFirstNot P xs t → IsFirstNot Q xs t
  first_alike [] t forth back h = absurd h
  first_alike (x ∷ xs) t forth back (inl h) = inl (h.0, λ q. h.1 (back x (inl refl) q))
  first_alike (x ∷ xs) t forth back (inr h) =
      inr (forth x (inl refl) h.0, first_alike xs t (λ y o. forth y (inr o)) (λ y o. back y (inr o)) h.1)

  pub each_alike : (xs : List TermTree) → ((x : TermTree) → IsOneOf x xs → P x → Q x) → Each P xs → Each Q xs
  each_alike [] forth h = tt
  each_alike (x ∷ xs) forth h = (forth x (inl refl) h.0, each_alike xs (λ y o. forth y (inr o)) h.1)

module _ (P : TermTree → Type 0) where
  pub not_each : (xs : List TermTree) (t : TermTree) → IsFirstNot P xs t → Each P xs → ⊥
  not_each [] t h all = h
  not_each (x ∷ xs) t (inl h) all = h.1 all.0
  not_each (x ∷ xs) t (inr h) all = not_each xs t h.1 all.1

  -- a premise all before which P holds of, and one side of which it doesn't
  pub first_at : (xs : List (Term × Term)) (i : ℕ) (x : Term × Term) (behind : List TermTree) (t : TermTree) →
      i < length xs → x ≡ get_or xs i x → Each P (premise_sides (map premise_of (take i xs))) →
      ((more : List TermTree) → IsFirstNot P (term_of x.0 ∷ term_of x.1 ∷ more) t) →
      IsFirstNot P (premise_sides (map premise_of xs) ++ behind) t
  first_at [] i x behind t w a e h = absurd (omega arith)
  first_at (y ∷ xs) zero x behind t w a e h =
      subst (λ z. IsFirstNot P (term_of z.0 ∷ term_of z.1 ∷ premise_sides (map premise_of xs) ++ behind) t) a
      (h (premise_sides (map premise_of xs) ++ behind))
  first_at (y ∷ xs) (suc i) x behind t w a e h = inr (e.0, inr (e.1.0, first_at xs i x behind t (omega arith) a e.1.1 h))

  sides_suc : (xs : List (Term × Term)) (i : ℕ) (x : Term × Term) → i < length xs → x ≡ get_or xs i x →
      Each P (premise_sides (map premise_of (take i xs))) → P (term_of x.0) → P (term_of x.1) →
      Each P (premise_sides (map premise_of (take (suc i) xs)))
  sides_suc [] i x w a e p q = absurd (omega arith)
  sides_suc (y ∷ xs) zero x w a e p q = subst (λ z. P (term_of z.0) × (P (term_of z.1) × Unit {0})) a (p, (q, tt))
  sides_suc (y ∷ xs) (suc i) x w a e p q = (e.0, (e.1.0, sides_suc xs i x (omega arith) a e.1.1 p q))

  pub sides_next : (xs : List (Term × Term)) (i : ℕ) (x : Term × Term) → i < length xs → x ≡ get_or xs i x →
      Each P (premise_sides (map premise_of (take i xs))) → P (term_of x.0) → P (term_of x.1) →
      Each P (premise_sides (map premise_of (take (i + 1) xs)))
  sides_next xs i x w a e p q = rw add-one (sides_suc xs i x w a e p q)

  pub sides_end : (xs : List (Term × Term)) (i : ℕ) → length xs ≤ i →
      Each P (premise_sides (map premise_of (take i xs))) → Each P (premise_sides (map premise_of xs))
  sides_end xs i w e = subst (λ ys. Each P (premise_sides (map premise_of ys))) (take_all i xs w) e

  pub last_not : (xs : List TermTree) (t : TermTree) → Each P xs → (P t → ⊥) → IsFirstNot P (xs ++ t ∷ []) t
  last_not [] t e h = inl (refl, h)
  last_not (x ∷ xs) t e h = inr (e.0, last_not xs t e.1 h)

  pub last_too : (xs : List TermTree) (t : TermTree) → Each P xs → P t → Each P (xs ++ t ∷ [])
  last_too [] t e h = (h, tt)
  last_too (x ∷ xs) t e h = (e.0, last_too xs t e.1 h)

  pub before_last : (xs : List TermTree) (t : TermTree) → Each P (xs ++ t ∷ []) → Each P xs × P t
  before_last [] t e = (tt, e.0)
  before_last (x ∷ xs) t e = let r = before_last xs t e.1 in ((e.0, r.0), r.1)

-- what stands in one of the sides stands in the premises or in the right side
pub has_side : (g : ℕ) (ps : List Premise) (right t : TermTree) → IsOneOf t (premise_sides ps ++ right ∷ []) → HasOperation g t →
    HasOperation g right ⊎ PremisesHaveOperation g ps
has_side g [] right t (inl e) h = inl (subst (HasOperation g) e h)
has_side g [] right t (inr o) h = absurd o
has_side g (premise a b ∷ ps) right t (inl e) h = inr (inl (subst (HasOperation g) e h))
has_side g (premise a b ∷ ps) right t (inr (inl e)) h = inr (inr (inl (subst (HasOperation g) e h)))
has_side g (premise a b ∷ ps) right t (inr (inr o)) h = elim (has_side g ps right t o h) [ inl r ↦ inl r | inr p ↦ inr (inr (inr p)) ]

-- an equation decreases where each of its sides is below
asked_sides : (theory : Theory) (f : ℕ) (ps : TermTrees) (qs : List Premise) →
    Each (PremiseIsBelow theory f ps) qs → Each (IsBelow theory f ps) (premise_sides qs)
asked_sides theory f ps [] h = tt
asked_sides theory f ps (premise a b ∷ qs) h = (h.0.0, (h.0.1, asked_sides theory f ps qs h.1))

sides_asked : (theory : Theory) (f : ℕ) (ps : TermTrees) (qs : List Premise) →
    Each (IsBelow theory f ps) (premise_sides qs) → Each (PremiseIsBelow theory f ps) qs
sides_asked theory f ps [] h = tt
sides_asked theory f ps (premise a b ∷ qs) h = ((h.0, h.1.0), sides_asked theory f ps qs h.1.1)

pub sides_below : (theory : Theory) (f : ℕ) (ps : TermTrees) (e : ConditionalEquation) →
    Decreases theory f ps e → Each (IsBelow theory f ps) (sides e)
sides_below theory f ps e h =
    last_too (IsBelow theory f ps) (premise_sides e.premises) e.right (asked_sides theory f ps e.premises h.asked) h.right

pub decreases : (theory : Theory) (f : ℕ) (ps : TermTrees) (e : ConditionalEquation) →
    Each (IsBelow theory f ps) (sides e) → Decreases theory f ps e
decreases theory f ps e h =
    let r = before_last (IsBelow theory f ps) (premise_sides e.premises) e.right h in record {
      right = r.1;
      asked = sides_asked theory f ps e.premises r.0;
    }
