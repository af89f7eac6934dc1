-- Tests.
use Rattle.std.proofs.Common.{ℕ, zero, suc, ◌≡◌, ◌⊎◌, List, [], ◌∷◌, inl, inr, arith, true, false, Contains}
use Rattle.std.specs.Str.{bytes_eq}
use Rattle.std.proofs.lemmas.Slice.Eq.{bytes_eq-Decides}
use Rattle.std.proofs.lemmas.Bool.{or_cases, or_left, or_right}
use Rattle.symbolic_composites.specs.OpenFields.{is_listed}

-- the test says whether a value is one of these

pub listed_there : (v : List ℕ) (values : List (List ℕ)) → is_listed v values ≡ true → Contains values v
listed_there v [] e = let no : false ≡ true = e in absurd cc
listed_there v (u ∷ values) e = by_place (λ f. listed_there v values f) (or_cases (bytes_eq u v) (is_listed v values) e)
  where
    by_place : (is_listed v values ≡ true → Contains values v) → (bytes_eq u v ≡ true) ⊎ (is_listed v values ≡ true) →
        Contains (u ∷ values) v
    by_place further (inl f) = (zero, omega arith, (bytes_eq-Decides u v).0 f)
    by_place further (inr f) = let c = further f in let l = c.1 in (suc c.0, omega arith, c.2)

pub listed_so : (v : List ℕ) (values : List (List ℕ)) → Contains values v → is_listed v values ≡ true
listed_so v [] c = let l = c.1 in absurd (omega arith)
listed_so v (u ∷ values) (zero, l, e) = or_left (bytes_eq u v) (is_listed v values) ((bytes_eq-Decides u v).1 e)
listed_so v (u ∷ values) (suc i, l, e) = or_right (bytes_eq u v) (is_listed v values) (listed_so v values (i, omega arith, e))
