-- Elements of lists that are made of other lists.
use Rattle.std.proofs.Common.{ℕ, zero, suc, ◌≡◌, ◌∙◌, ◌⊎◌, inl, inr, refl, sym, ap, subst, List, [], ◌∷◌, ◌++◌, Some, Bool, true, false, ◌||◌, cond}
use Rattle.std.specs.List.{filter, find, fold, list_any, position_or_len, slice_get, zip}
use Rattle.std.proofs.lemmas.Bool.{or_cases, or_left, or_right}
use Rattle.std.proofs.lemmas.List.Folds.{find_at}
use Rattle.std.proofs.lemmas.Option.{same_Some, none-some}
use Rattle.spec_core.specs.Lists.{Each, IsOneOf, NoTwo}
use Rattle.spec_core.proofs.Lists.{each_filter}
use Rattle.spec_core.proofs.Members.{one_parts, one_left, one_right}
use Rattle.type_contents.specs.Lists.{with_one, each_once}

-- what passes a test

pub any-in : {A : Type 0} (p : A → Bool) (xs : List A) → list_any p xs ≡ true → (y : A) × IsOneOf y xs × (p y ≡ true)
any-in p [] e = absurd (cc)
any-in p (x ∷ xs) e = elim (or_cases (p x) (list_any p xs) e) [
  | inl h ↦ (x, inl refl, h)
  | inr h ↦ later p x xs (any-in p xs h)
]
  where
    later : {A : Type 0} (p : A → Bool) (x : A) (xs : List A) → (y : A) × IsOneOf y xs × (p y ≡ true) → (y : A) × IsOneOf y (x ∷ xs) × (p y ≡ true)
    later p x xs (y, h, e) = (y, inr h, e)

pub in-any : {A : Type 0} (p : A → Bool) (y : A) (xs : List A) → IsOneOf y xs → p y ≡ true → list_any p xs ≡ true
in-any p y [] h e = absurd h
in-any p y (x ∷ xs) (inl q) e = or_left (p x) (list_any p xs) (ap p (sym q) ∙ e)
in-any p y (x ∷ xs) (inr h) e = or_right (p x) (list_any p xs) (in-any p y xs h e)

-- the first that passes a test

found-first : {A : Type 0} (p : A → Bool) (xs : List A) → list_any p xs ≡ true → (x : A) × (find p xs ≡ Some x) × (p x ≡ true)
found-first p [] e = absurd (cc)
found-first {A = A} p (x ∷ xs) e = by-test (p x) refl (λ h. found-first p xs h)
  where
    by-test : (b : Bool) → p x ≡ b → (list_any p xs ≡ true → (y : A) × (find p xs ≡ Some y) × (p y ≡ true)) → (y : A) × (cond b (Some x) (find p xs) ≡ Some y) × (p y ≡ true)
    by-test true h next = (x, refl, h)
    by-test false h next = next (sym (ap (λ z. z || list_any p xs) h) ∙ e)

pub first-there : {A : Type 0} (p : A → Bool) (xs : List A) → list_any p xs ≡ true → (x : A) × (slice_get xs (position_or_len p xs) ≡ Some x) × (p x ≡ true)
first-there {A = A} p xs e = by-found (found-first p xs e)
  where
    by-found : (x : A) × (find p xs ≡ Some x) × (p x ≡ true) → (x : A) × (slice_get xs (position_or_len p xs) ≡ Some x) × (p x ≡ true)
    by-found (x, f, h) = (x, sym (find_at p xs) ∙ f, h)

pub find-passes : {A : Type 0} (p : A → Bool) (xs : List A) (x : A) → find p xs ≡ Some x → IsOneOf x xs × (p x ≡ true)
find-passes p [] x e = absurd (none-some x e)
find-passes {A = A} p (y ∷ ys) x e = by-test (p y) refl (λ h. find-passes p ys x h) e
  where
    by-test : (b : Bool) → p y ≡ b → (find p ys ≡ Some x → IsOneOf x ys × (p x ≡ true)) → cond b (Some y) (find p ys) ≡ Some x → IsOneOf x (y ∷ ys) × (p x ≡ true)
    by-test true h next f = let s : y ≡ x = same_Some y x f in (inl (sym s), ap p (sym s) ∙ h)
    by-test false h next f = let r : IsOneOf x ys × (p x ≡ true) = next f in (inr r.0, r.1)

-- each once

once-kept : {A : Type 0} (b : Bool) (acc : List A) (x y : A) → IsOneOf y acc → IsOneOf y (cond b acc (acc ++ x ∷ []))
once-kept true acc x y h = h
once-kept false acc x y h = one_left y acc (x ∷ []) h

once-stays : {A : Type 0} (same : A → A → Bool) (acc all : List A) (y : A) → IsOneOf y acc → IsOneOf y (fold (with_one same) acc all)
once-stays same acc [] y h = h
once-stays same acc (x ∷ xs) y h = once-stays same (with_one same acc x) xs y (once-kept (list_any (same x) acc) acc x y h)

-- one that is the same is there
abbrev pub IsStoodFor : {A : Type 0} → (A → A → Bool) → List A → A → Type 0
IsStoodFor {A} same all x = (y : A) × IsOneOf y all × (same x y ≡ true)

once-new : {A : Type 0} (same : A → A → Bool) → ((x : A) → same x x ≡ true) → (acc : List A) (x : A) → IsStoodFor same (with_one same acc x) x
once-new same self acc x = by-test (list_any (same x) acc) refl
  where
    by-test : (b : Bool) → list_any (same x) acc ≡ b → IsStoodFor same (cond b acc (acc ++ x ∷ [])) x
    by-test true e = any-in (same x) acc e
    by-test false e = (x, one_right x acc (x ∷ []) (inl refl), self x)

once-all : {A : Type 0} (same : A → A → Bool) → ((x : A) → same x x ≡ true) → (acc all : List A) (x : A) → IsOneOf x all → IsStoodFor same (fold (with_one same) acc all) x
once-all same self acc [] x h = absurd h
once-all same self acc (z ∷ zs) x (inl e) = by-new (once-new same self acc z)
  where
    by-new : IsStoodFor same (with_one same acc z) z → IsStoodFor same (fold (with_one same) (with_one same acc z) zs) x
    by-new (y, h, s) = (y, once-stays same (with_one same acc z) zs y h, subst (λ w. same w y ≡ true) (sym e) s)
once-all same self acc (z ∷ zs) x (inr h) = once-all same self (with_one same acc z) zs x h

pub in-once : {A : Type 0} (same : A → A → Bool) → ((x : A) → same x x ≡ true) → (all : List A) (x : A) → IsOneOf x all → IsStoodFor same (each_once same all) x
in-once same self all x h = once-all same self [] all x h

once-cases : {A : Type 0} (b : Bool) (acc : List A) (x y : A) (xs : List A) → IsOneOf y (cond b acc (acc ++ x ∷ [])) → IsOneOf y acc ⊎ IsOneOf y (x ∷ xs)
once-cases true acc x y xs h = inl h
once-cases false acc x y xs h = elim (one_parts y acc (x ∷ []) h) [
  | inl i ↦ inl i
  | inr i ↦ inr (one_left y (x ∷ []) xs i)
]

once-origin : {A : Type 0} (same : A → A → Bool) (acc all : List A) (y : A) → IsOneOf y (fold (with_one same) acc all) → IsOneOf y acc ⊎ IsOneOf y all
once-origin same acc [] y h = inl h
once-origin same acc (x ∷ xs) y h = elim (once-origin same (with_one same acc x) xs y h) [
  | inl i ↦ once-cases (list_any (same x) acc) acc x y xs i
  | inr i ↦ inr (inr i)
]

pub once-from : {A : Type 0} (same : A → A → Bool) (all : List A) (y : A) → IsOneOf y (each_once same all) → IsOneOf y all
once-from same all y h = elim (once-origin same [] all y h) [ inl i ↦ absurd i | inr i ↦ i ]

-- no two of them are the same

-- the first of each two that are related isn't the same as the second
abbrev pub AreUnlike : {A : Type 0} → (A → A → Bool) → List A → Type 0
AreUnlike same xs = NoTwo (λ y x. same x y ≡ true) xs

one-more-unlike : {A : Type 0} (same : A → A → Bool) (acc : List A) (x : A) → AreUnlike same acc → Each (λ y. same x y ≡ true → ⊥) acc → AreUnlike same (acc ++ x ∷ [])
one-more-unlike same [] x h e = (tt, tt)
one-more-unlike same (y ∷ ys) x h e = (each-more same y ys x h.0 e.0, one-more-unlike same ys x h.1 e.1)
  where
    each-more : {A : Type 0} (same : A → A → Bool) (y : A) (ys : List A) (x : A) → Each (λ z. same z y ≡ true → ⊥) ys → (same x y ≡ true → ⊥) → Each (λ z. same z y ≡ true → ⊥) (ys ++ x ∷ [])
    each-more same y [] x h e = (e, tt)
    each-more same y (z ∷ zs) x h e = (h.0, each-more same y zs x h.1 e)

pub none-same : {A : Type 0} (p : A → Bool) (xs : List A) → list_any p xs ≡ false → Each (λ y. p y ≡ true → ⊥) xs
none-same p [] e = tt
none-same p (x ∷ xs) e = by-test (p x) refl (λ h. none-same p xs h)
  where
    by-test : (b : Bool) → p x ≡ b → (list_any p xs ≡ false → Each (λ y. p y ≡ true → ⊥) xs) → Each (λ y. p y ≡ true → ⊥) (x ∷ xs)
    by-test true h next = absurd (untrue (sym (ap (λ z. z || list_any p xs) h) ∙ e))
      where
        untrue : true ≡ false → ⊥
        untrue q = cc
    by-test false h next = (λ q. untrue (sym q ∙ h), next (sym (ap (λ z. z || list_any p xs) h) ∙ e))
      where
        untrue : true ≡ false → ⊥
        untrue q = cc

unlike-kept : {A : Type 0} (same : A → A → Bool) (acc all : List A) → AreUnlike same acc → AreUnlike same (fold (with_one same) acc all)
unlike-kept same acc [] h = h
unlike-kept same acc (x ∷ xs) h = unlike-kept same (with_one same acc x) xs (by-test (list_any (same x) acc) refl)
  where
    by-test : (b : Bool) → list_any (same x) acc ≡ b → AreUnlike same (cond b acc (acc ++ x ∷ []))
    by-test true e = h
    by-test false e = one-more-unlike same acc x h (none-same (same x) acc e)

pub once-unlike : {A : Type 0} (same : A → A → Bool) (all : List A) → AreUnlike same (each_once same all)
once-unlike same all = unlike-kept same [] all tt

pub no-two-kept : {A : Type 0} (R : A → A → Type 0) (p : A → Bool) (xs : List A) → NoTwo R xs → NoTwo R (filter p xs)
no-two-kept R p [] h = tt
no-two-kept {A = A} R p (x ∷ xs) h = by-test (p x) (no-two-kept R p xs h.1)
  where
    by-test : (b : Bool) → NoTwo R (filter p xs) → NoTwo R (cond b (x ∷ filter p xs) (filter p xs))
    by-test true k = (each_filter (λ y. R x y → ⊥) p xs h.0, k)
    by-test false k = k

-- numbers

pub in-at : {A : Type 0} (x : A) (xs : List A) → IsOneOf x xs → (k : ℕ) × (slice_get xs k ≡ Some x)
in-at x [] h = absurd h
in-at x (y ∷ ys) (inl e) = (zero, ap Some (sym e))
in-at x (y ∷ ys) (inr h) = let r : (k : ℕ) × (slice_get ys k ≡ Some x) = in-at x ys h in (suc r.0, r.1)

not-behind : {A : Type 0} (same : A → A → Bool) (z : A) (zs : List A) (y : A) (j : ℕ) → Each (λ x. same x z ≡ true → ⊥) zs → slice_get zs j ≡ Some y → same y z ≡ true → ⊥
not-behind same z [] y j h e s = none-some y e
not-behind same z (x ∷ xs) y zero h e s = h.0 (subst (λ w. same w z ≡ true) (sym (same_Some x y e)) s)
not-behind same z (x ∷ xs) y (suc j) h e s = not-behind same z xs y j h.1 e s

-- what is the same stands at one place
pub unlike-one : {A : Type 0} (same : A → A → Bool) (xs : List A) (i j : ℕ) (x y : A) → AreUnlike same xs → slice_get xs i ≡ Some x → slice_get xs j ≡ Some y → same x y ≡ true → same y x ≡ true → i ≡ j
unlike-one same [] i j x y h e f s t = absurd (none-some x e)
unlike-one same (z ∷ zs) zero zero x y h e f s t = refl
unlike-one same (z ∷ zs) zero (suc j) x y h e f s t = absurd (not-behind same z zs y j h.0 f (subst (λ w. same y w ≡ true) (sym (same_Some z x e)) t))
unlike-one same (z ∷ zs) (suc i) zero x y h e f s t = absurd (not-behind same z zs x i h.0 e (subst (λ w. same x w ≡ true) (sym (same_Some z y f)) s))
unlike-one same (z ∷ zs) (suc i) (suc j) x y h e f s t = ap suc (unlike-one same zs i j x y h.1 e f s t)

-- pairs

pub paired : {A B : Type 0} (xs : List A) (ys : List B) (k : ℕ) (x : A) (y : B) → slice_get xs k ≡ Some x → slice_get ys k ≡ Some y → slice_get (zip xs ys) k ≡ Some (x, y)
paired [] ys k x y e f = absurd (none-some x e)
paired (a ∷ xs) [] k x y e f = absurd (none-some y f)
paired (a ∷ xs) (b ∷ ys) zero x y e f = ap Some (ap (λ z. (z, b)) (same_Some a x e) ∙ ap (λ z. (x, z)) (same_Some b y f))
paired (a ∷ xs) (b ∷ ys) (suc k) x y e f = paired xs ys k x y e f

pub pair-at : {A B : Type 0} (xs : List A) (ys : List B) (k : ℕ) (p : A × B) → slice_get (zip xs ys) k ≡ Some p → (slice_get xs k ≡ Some p.0) × (slice_get ys k ≡ Some p.1)
pair-at [] ys k p e = absurd (none-some p e)
pair-at (a ∷ xs) [] k p e = absurd (none-some p e)
pair-at (a ∷ xs) (b ∷ ys) zero p e = let s = same_Some (a, b) p e in (ap (λ q. Some q.0) s, ap (λ q. Some q.1) s)
pair-at (a ∷ xs) (b ∷ ys) (suc k) p e = pair-at xs ys k p e
