-- Early ends of searches.
use Rattle.std.proofs.Common.{ℕ, zero, suc, ◌≡◌, ◌<◌, List, [], ◌∷◌, length, map, get_or, refl, ap, sym, subst, ◌∙◌, arith, Bool, true, false, ◌||◌}
use Rattle.std.specs.List.{list_any}
use Rattle.spec_core.proofs.Lists.{any_at}

or-true : (b : Bool) → true ≡ b || true
or-true true = refl
or-true false = refl

-- an element passes the test
pub any-at : {A B : Type 0} (p : B → Bool) (f : A → B) (xs ys : List A) (i : ℕ) (x : A) → ys ≡ xs → i < length ys → x ≡ get_or ys i x → p (f x) ≡ true → true ≡ list_any p (map f xs)
any-at p f xs ys i x same within at passes = subst (λ zs. true ≡ list_any p (map f zs)) same (any_at p f ys i x within at passes)

-- the same of a list as it stands
pub any-in : {A : Type 0} (p : A → Bool) (xs : List A) (i : ℕ) (x : A) → i < length xs → x ≡ get_or xs i x → p x ≡ true → true ≡ list_any p xs
any-in p [] i x within at passes = absurd (omega arith)
any-in p (y ∷ xs) zero x within at passes = ap (λ b. b || list_any p xs) (sym (ap p (sym at) ∙ passes))
any-in p (y ∷ xs) (suc i) x within at passes = or-true (p y) ∙ ap (λ b. p y || b) (any-in p xs i x (omega arith) at passes)
