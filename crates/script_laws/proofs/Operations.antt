-- Which operation a name, whatever the case of its letters, and argument sorts tell.
use Rattle.std.proofs.Common.{ℕ, zero, suc, ◌≡◌, ◌∙◌, ◌⊎◌, inl, inr, ◌<◌, ◌+◌, Bool, true, false, List, [], ◌∷◌, map, Some}
use Rattle.std.proofs.Common.{refl, ap, sym, subst, arith, count_by, if◌then◌else◌, lt-ltb}
use Rattle.std.specs.Char.{to_ascii_lowercase}
use Rattle.std.specs.List.{slice_get}
use Rattle.std.specs.Str.{bytes_eq}
use Rattle.std.proofs.lemmas.List.Recursion.{is_count_by}
use Rattle.std.proofs.lemmas.Slice.Eq.{bytes_eq-Decides}
use Rattle.std.proofs.lemmas.Bool.{and_from, both_ways}
use Rattle.spec_core.specs.Lists.{NoTwo}
use Rattle.spec_core.specs.Names.{IsSameName}
use Rattle.spec_core.specs.Ready.{IsSameOperation}
use Rattle.spec_core.specs.TermText.{shares}
use Rattle.spec_core.specs.Theories.{Operation}
use Rattle.value_text.specs.Values.{is_shared}
use Rattle.value_text.proofs.Names.{one_place}
use Rattle.value_text.proofs.Operations.{shares_itself}

-- how many pass a test
abbrev passing : {A : Type 0} → (A → Bool) → List A → ℕ
passing p [] = 0
passing p (x ∷ xs) = if p x then 1 + passing p xs else passing p xs

more_pass : (b : Bool) (k : ℕ) → k < suc (if b then 1 + k else k)
more_pass true k = omega arith
more_pass false k = omega arith

one_passes : (b : Bool) (k : ℕ) → b ≡ true → k < (if b then 1 + k else k)
one_passes true k h = omega arith
one_passes false k h = absurd (cc)

some_pass : {A : Type 0} (p : A → Bool) (xs : List A) (i : ℕ) (x : A) → slice_get xs i ≡ Some x → p x ≡ true → 0 < passing p xs
some_pass p [] zero x e h = absurd (cc)
some_pass p [] (suc i) x e h = absurd (cc)
some_pass p (y ∷ xs) zero x e h =
    let same : y ≡ x = cc in
    let k = one_passes (p y) (passing p xs) (ap p same ∙ h) in
    omega (arith, k)
some_pass p (y ∷ xs) (suc i) x e h =
    let k = some_pass p xs i x e h in
    let l = more_pass (p y) (passing p xs) in
    omega (arith, k, l)

-- two that pass are at one place, or more than one pass
two_pass : {A : Type 0} (p : A → Bool) (xs : List A) (i j : ℕ) (x y : A) →
    slice_get xs i ≡ Some x → slice_get xs j ≡ Some y → p x ≡ true → p y ≡ true → (i ≡ j) ⊎ (1 < passing p xs)
two_pass p [] zero j x y a b h k = absurd (cc)
two_pass p [] (suc i) j x y a b h k = absurd (cc)
two_pass p (z ∷ xs) zero zero x y a b h k = inl refl
two_pass p (z ∷ xs) zero (suc j) x y a b h k =
    let same : z ≡ x = cc in
    let m = one_passes (p z) (passing p xs) (ap p same ∙ h) in
    let n = some_pass p xs j y b k in
    inr (omega (arith, m, n))
two_pass p (z ∷ xs) (suc i) zero x y a b h k =
    let same : z ≡ y = cc in
    let m = one_passes (p z) (passing p xs) (ap p same ∙ k) in
    let n = some_pass p xs i x a h in
    inr (omega (arith, m, n))
two_pass p (z ∷ xs) (suc i) (suc j) x y a b h k = go (two_pass p xs i j x y a b h k)
  where
    go : (i ≡ j) ⊎ (1 < passing p xs) → (suc i ≡ suc j) ⊎ (1 < passing p (z ∷ xs))
    go (inl e) = inl (ap suc e)
    go (inr m) = inr (let l = more_pass (p z) (passing p xs) in omega (arith, m, l))

shares_so : (d e : Operation) → IsSameName e.name d.name → e.args ≡ d.args → shares d e ≡ true
shares_so d e n a =
    and_from (bytes_eq (map to_ascii_lowercase d.name) (map to_ascii_lowercase e.name)) (bytes_eq d.args e.args)
    ((bytes_eq-Decides (map to_ascii_lowercase d.name) (map to_ascii_lowercase e.name)).1 (sym n))
    ((bytes_eq-Decides d.args e.args).1 (sym a))

-- an operation that shares its name and argument sorts with no other
pub one_alone : (operations : List Operation) (f g : ℕ) (d e : Operation) →
    slice_get operations f ≡ Some d → slice_get operations g ≡ Some e → IsSameName e.name d.name → e.args ≡ d.args →
    is_shared operations d ≡ false → g ≡ f
one_alone operations f g d e a b n r alone =
    go (two_pass (shares d) operations g f e d b a (shares_so d e n r) (shares_itself d))
  where
    go : (g ≡ f) ⊎ (1 < passing (shares d) operations) → g ≡ f
    go (inl e) = e
    go (inr more) =
        absurd (both_ways (is_shared operations d)
        alone (lt-ltb 1 (count_by (shares d) operations)
        (subst (λ k. 1 < k) (is_count_by (passing (shares d)) (shares d) refl (λ x xs. refl) operations) more)))

-- the result sort tells two operations apart
pub one_of_sort : (operations : List Operation) (f g : ℕ) (d e : Operation) → NoTwo IsSameOperation operations →
    slice_get operations f ≡ Some d → slice_get operations g ≡ Some e → IsSameName e.name d.name → e.args ≡ d.args → e.result ≡ d.result →
    g ≡ f
one_of_sort operations f g d e differ a b n r s =
    one_place IsSameOperation operations g f e d differ b a (n, r, s) (sym n, sym r, sym s)
