-- Elements of lists.
use Rattle.std.proofs.Common.{zero, suc, ◌≡◌, inl, inr, List, [], ◌∷◌, map, filter, refl, sym, ap, subst, arith, Option}
use Rattle.std.proofs.Common.{Some}
use Rattle.std.proofs.Common.{Bool, true, false, cond, Contains}
use Rattle.spec_core.specs.Lists.{IsOneOf}
use Rattle.symbolic_composites.specs.Composites.{from_option}

pub one_option : {A B : Type 0} (o : Option A) (f : A → List B) (a : A) (y : B) → o ≡ Some a → IsOneOf y (f a) →
    IsOneOf y (from_option o f)
one_option o f a y e h = subst (λ z. IsOneOf y (from_option z f)) (sym e) h

-- an element of a list of values
pub one_contained : {A B : Type 0} (f : A → B) (xs : List A) (x : A) → Contains xs x → IsOneOf (f x) (map f xs)
one_contained f [] x (i, l, e) = absurd (omega arith)
one_contained f (y ∷ xs) x (zero, l, e) = inl (ap f (sym e))
one_contained f (y ∷ xs) x (suc i, l, e) = inr (one_contained f xs x (i, omega arith, e))

pub filter_passes : {A : Type 0} (p : A → Bool) (x : A) (xs : List A) → IsOneOf x (filter p xs) → p x ≡ true
filter_passes p x [] h = absurd h
filter_passes p x (y ∷ xs) h = by_test (p y) refl (λ k. filter_passes p x xs k) h
  where
    by_test : (b : Bool) → p y ≡ b → (IsOneOf x (filter p xs) → p x ≡ true) → IsOneOf x (cond b (y ∷ filter p xs) (filter p xs)) →
        p x ≡ true
    by_test true e r (inl q) = subst (λ z. p z ≡ true) (sym q) e
    by_test true e r (inr k) = r k
    by_test false e r k = r k

pub empty_has_none : {A : Type 0} (x : A) (xs : List A) → xs ≡ [] → IsOneOf x xs → ⊥
empty_has_none x xs e h = subst (IsOneOf x) e h
