-- Loops over lists.
use Rattle.std.proofs.Common.{◌≡◌, ◌∙◌, refl, sym, ap, subst, List, [], ◌∷◌, ◌++◌, ℕ, zero, suc, ◌+◌, ◌-◌, ◌<◌, ◌≤◌, length, map, take, drop, get_or, ◌||◌, arith, Bool, false}
use Rattle.std.specs.List.{position_or_len, flat_map, list_any, AllByRecursion}
use Rattle.std.proofs.lemmas.List.{map-append, append-nil, take_all}
use Rattle.std.proofs.Common.{append_assoc}
use Rattle.std.proofs.lemmas.Grind.{flat_map-append}
use Rattle.spec_core.proofs.Lists.{take_next}

-- no element passes a test
pub none_is : {A : Type 0} (p : A → Bool) (xs : List A) (i : ℕ) → length xs ≤ i → ((k : ℕ) (d : A) → k < i → p (get_or xs k d) ≡ false) → length xs ≡ position_or_len p xs
none_is p [] i past none = refl
none_is p (x ∷ xs) zero past none = absurd (omega (arith, past))
none_is p (x ∷ xs) (suc i) past none =
    let h : length xs ≡ position_or_len p xs = none_is p xs i (omega (arith, past)) (λ k d h. none (suc k) d (omega (arith, h))) in
    rw (none 0 x (omega arith)) (omega (arith, h))

-- what one more element gives, through a function
pub gathered_next : {A B C : Type 0} (f : B → List C) (g : A → B) (now then : List C) (xs : List A) (i : ℕ) (x : A) → i < length xs → x ≡ get_or xs i x → now ≡ flat_map f (map g (take i xs)) → then ≡ now ++ f (g x) → then ≡ flat_map f (map g (take (i + 1) xs))
gathered_next f g now then xs i x within at before more =
    more ∙ ap (λ zs. zs ++ f (g x)) before
    ∙ sym (ap (λ zs. flat_map f (map g zs)) (take_next xs i x within at) ∙ ap (flat_map f) (map-append g (take i xs) (x ∷ []))
    ∙ flat_map-append f (map g (take i xs)) (g x ∷ []) ∙ ap (λ z. flat_map f (map g (take i xs)) ++ z) (append-nil (f (g x))))

pub all_at : {A : Type 0} (P : A → Type 0) (xs : List A) (i : ℕ) (x : A) → AllByRecursion P xs → i < length xs → x ≡ get_or xs i x → P x
all_at P [] i x h within at = absurd (omega (arith, within))
all_at P (y ∷ ys) zero x h within at = subst P (sym at) h.0
all_at P (y ∷ ys) (suc i) x h within at = all_at P ys i x h.1 (omega (arith, within)) at

-- one more element behind others
pub appended_next : {A C : Type 0} (f : A → C) (h now then : List C) (xs : List A) (i : ℕ) (x : A) → i < length xs → x ≡ get_or xs i x → now ≡ h ++ map f (take i xs) → then ≡ now ++ f x ∷ [] → then ≡ h ++ map f (take (i + 1) xs)
appended_next f h now then xs i x within at before more =
    more ∙ ap (λ zs. zs ++ f x ∷ []) before ∙ append_assoc h (map f (take i xs)) (f x ∷ [])
    ∙ ap (λ z. h ++ z) (sym (ap (map f) (take_next xs i x within at) ∙ map-append f (take i xs) (x ∷ [])))

-- the first doesn't pass a test

pub any_rest : {A : Type 0} (p : A → Bool) (xs : List A) (x : A) (r : Bool) → 1 ≤ length xs → x ≡ get_or xs 0 x → p x ≡ false → r ≡ list_any p (take (length xs - 1) (drop 1 xs)) → r ≡ list_any p xs
any_rest p [] x r some at h more = absurd (omega (arith, some))
any_rest p (y ∷ ys) x r some at h more = more ∙ ap (list_any p) (take_all (length (y ∷ ys) - 1) ys (omega arith)) ∙ sym (ap (λ z. z || list_any p ys) (ap p (sym at) ∙ h))
