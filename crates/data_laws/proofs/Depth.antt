-- The operations below an operation come to an end, since there are finitely many.
use Rattle.std.proofs.Common.{ℕ, zero, suc, ◌≡◌, ◌≤◌, ◌<◌, ◌+◌, List, [], ◌∷◌, sym, subst, arith, inl, inr, ◌⊎◌, true, false, eqb, length}
use Rattle.std.proofs.Common.{◌||◌}
use Rattle.std.specs.List.{IsDistinct, AllByRecursion, list_any}
use Rattle.spec_core.specs.Theories.{Theory}
use Rattle.spec_core.specs.Order.{Mentions, DependsOn, itself, onward, IsAbove}
use Rattle.std.proofs.lemmas.Bool.Decides.{eqb_tells}
use Rattle.std.proofs.lemmas.Map.Keys.{IsDistinct-cons}
use Rattle.std.proofs.lemmas.Map.Steps.{length-le_from_distinct_below}
use Rattle.std.proofs.lemmas.Bool.{ne_eqb}
use Rattle.data_laws.proofs.Exists.{EndsAt, ends_at, reaches_on}

all_small : (n : ℕ) (xs : List ℕ) → AllByRecursion (λ x. x < n) xs → (q : ℕ) → list_any (eqb q) xs ≡ true → q < n
all_small n [] h q e = cc
all_small n (x ∷ xs) h q e = at_head (eqb_tells q x) (λ d. all_small n xs h.1 q d)
  where
    at_head : ((eqb q x ≡ true) × (q ≡ x)) ⊎ ((eqb q x ≡ false) × ((q ≡ x) → ⊥)) → (list_any (eqb q) xs ≡ true → q < n) → q < n
    at_head (inl d) rest = subst (λ z. z < n) (sym d.1) h.0
    at_head (inr d) rest = rest (subst (λ b. (b || list_any (eqb q) xs) ≡ true) d.0 e)

pub at_most : (n : ℕ) (xs : List ℕ) → IsDistinct eqb xs → AllByRecursion (λ x. x < n) xs → length xs ≤ n
at_most n xs d h = length-le_from_distinct_below xs n d (all_small n xs h)

module _ (theory : Theory) (n : ℕ) (small : (f g : ℕ) → Mentions theory f g → f < n) where
  apart : (f : ℕ) (done : List ℕ) → AllByRecursion (λ d. IsAbove theory d f) done → AllByRecursion (λ d. eqb f d ≡ false) done
  apart f [] h = tt
  apart f (d ∷ done) h = (ne_eqb f d (λ e. h.0.1 (subst (λ z. DependsOn theory f z) e (itself f))), apart f done h.1)

  lower : (f g : ℕ) (done : List ℕ) → IsAbove theory f g → AllByRecursion (λ d. IsAbove theory d f) done →
      AllByRecursion (λ d. IsAbove theory d g) done
  lower f g [] a h = tt
  lower f g (d ∷ done) a h = ((reaches_on theory d f g h.0.0 a.0, λ b. h.0.1 (reaches_on theory f g d a.0 b)), lower f g done a h.1)

  heads : (f g : ℕ) → DependsOn theory f g → (DependsOn theory g f → ⊥) → f < n
  heads f g (itself h) no_way = absurd (no_way (itself h))
  heads f g (onward h m k s r) no_way = small h m s

  deep : (k : ℕ) (f : ℕ) (done : List ℕ) → IsDistinct eqb done → AllByRecursion (λ d. d < n) done →
      AllByRecursion (λ d. IsAbove theory d f) done → length done + k ≡ n → EndsAt theory f
  deep zero f done d s a e = ends_at f
      (λ g b. absurd (let h = at_most n (f ∷ done) (IsDistinct-cons eqb f done (apart f done a) d) (heads f g b.0 b.1, s) in
      omega (arith, h)))
  deep (suc k) f done d s a e = ends_at f
      (λ g b. deep k g (f ∷ done) (IsDistinct-cons eqb f done (apart f done a) d) (heads f g b.0 b.1, s) (b, lower f g done b a)
      (omega (arith, e)))

  pub all_end : (f : ℕ) → EndsAt theory f
  unfolding IsDistinct
  all_end f = deep n f [] tt tt tt (omega arith)
