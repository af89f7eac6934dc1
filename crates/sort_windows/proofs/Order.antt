-- The order of windows.
use Rattle.std.proofs.Common.{ℕ, suc, ◌≡◌, ◌<◌, ◌≤◌, ◌-◌, Some, ◌⊎◌, inl, inr, List, [], ◌∷◌, ◌++◌, length, map, refl, ap, sym, subst}
use Rattle.std.proofs.Common.{◌∙◌, arith, length-append}
use Rattle.std.proofs.lemmas.Bool.{cases_order}
use Rattle.std.specs.List.{slice_get}
use Rattle.spec_core.specs.Lists.{Each, IsOneOf}
use Rattle.spec_core.specs.Windows.{IsLess, IsBefore, IsInOrder}
use Rattle.spec_core.proofs.Lists.{each_implied}
use Rattle.spec_core.proofs.Members.{each_one}

pub less_onward : (xs ys zs : List ℕ) → IsLess xs ys → IsLess ys zs → IsLess xs zs
less_onward [] [] zs h k = absurd h
less_onward [] (y ∷ ys) zs h k = absurd h
less_onward (x ∷ xs) [] zs h k = absurd h
less_onward (x ∷ xs) (y ∷ ys) [] h k = absurd k
less_onward (x ∷ xs) (y ∷ ys) (z ∷ zs) (inl h) (inl k) = inl (omega arith)
less_onward (x ∷ xs) (y ∷ ys) (z ∷ zs) (inl h) (inr k) = let e = k.0 in inl (omega (arith, e))
less_onward (x ∷ xs) (y ∷ ys) (z ∷ zs) (inr h) (inl k) = let e = h.0 in inl (omega (arith, e))
less_onward (x ∷ xs) (y ∷ ys) (z ∷ zs) (inr h) (inr k) = inr (h.0 ∙ k.0, less_onward xs ys zs h.1 k.1)

pub before_onward : (xs ys zs : List ℕ) → IsBefore xs ys → IsBefore ys zs → IsBefore xs zs
before_onward xs ys zs (inl h) (inl k) = inl (omega arith)
before_onward xs ys zs (inl h) (inr k) = let e = k.0 in inl (omega (arith, e))
before_onward xs ys zs (inr h) (inl k) = let e = h.0 in inl (omega (arith, e))
before_onward xs ys zs (inr h) (inr k) = inr (h.0 ∙ k.0, less_onward xs ys zs h.1 k.1)

not_less : (xs : List ℕ) → IsLess xs xs → ⊥
not_less [] h = h
not_less (x ∷ xs) (inl h) = absurd (omega arith)
not_less (x ∷ xs) (inr h) = not_less xs h.1

pub not_before : (xs : List ℕ) → IsBefore xs xs → ⊥
not_before xs (inl h) = absurd (omega arith)
not_before xs (inr h) = not_less xs h.1

-- of two lists as long one is less, or they are equal
less_or_more : (xs ys : List ℕ) → length xs ≡ length ys → IsLess xs ys ⊎ (xs ≡ ys) ⊎ IsLess ys xs
less_or_more [] [] e = inr (inl refl)
less_or_more [] (y ∷ ys) e = absurd (omega arith)
less_or_more (x ∷ xs) [] e = absurd (omega arith)
less_or_more (x ∷ xs) (y ∷ ys) e = go (cases_order x y) (less_or_more xs ys (omega arith))
  where
    go : (x ≡ y) ⊎ ((x < y) ⊎ (y < x)) →
        IsLess xs ys ⊎ (xs ≡ ys) ⊎ IsLess ys xs → IsLess (x ∷ xs) (y ∷ ys) ⊎ (x ∷ xs ≡ y ∷ ys) ⊎ IsLess (y ∷ ys) (x ∷ xs)
    go (inr (inl h)) k = inl (inl h)
    go (inr (inr h)) k = inr (inr (inl h))
    go (inl s) (inl k) = inl (inr (s, k))
    go (inl s) (inr (inl k)) = inr (inl cc)
    go (inl s) (inr (inr k)) = inr (inr (inr (sym s, k)))

-- of two lists one comes before the other, or they are equal
pub before_or_after : (xs ys : List ℕ) → IsBefore xs ys ⊎ (xs ≡ ys) ⊎ IsBefore ys xs
before_or_after xs ys = go (cases_order (length xs) (length ys))
  where
    further : length xs ≡ length ys → IsLess xs ys ⊎ (xs ≡ ys) ⊎ IsLess ys xs → IsBefore xs ys ⊎ (xs ≡ ys) ⊎ IsBefore ys xs
    further e (inl k) = inl (inr (e, k))
    further e (inr (inl k)) = inr (inl k)
    further e (inr (inr k)) = inr (inr (inr (sym e, k)))

    go : (length xs ≡ length ys) ⊎ ((length xs < length ys) ⊎ (length ys < length xs)) → IsBefore xs ys ⊎ (xs ≡ ys) ⊎ IsBefore ys xs
    go (inr (inl h)) = inl (inl h)
    go (inr (inr h)) = inr (inr (inl h))
    go (inl e) = further e (less_or_more xs ys e)

less_behind : (p xs ys : List ℕ) → IsLess xs ys → IsLess (p ++ xs) (p ++ ys)
less_behind [] xs ys h = h
less_behind (x ∷ p) xs ys h = inr (refl, less_behind p xs ys h)

less_in_front : (xs ys q : List ℕ) → IsLess xs ys → IsLess (xs ++ q) (ys ++ q)
less_in_front [] [] q h = absurd h
less_in_front [] (y ∷ ys) q h = absurd h
less_in_front (x ∷ xs) [] q h = absurd h
less_in_front (x ∷ xs) (y ∷ ys) q (inl h) = inl h
less_in_front (x ∷ xs) (y ∷ ys) q (inr h) = inr (h.0, less_in_front xs ys q h.1)

-- what comes before also does inside the same list
pub before_inside : (p xs ys q : List ℕ) → IsBefore xs ys → IsBefore ((p ++ xs) ++ q) ((p ++ ys) ++ q)
before_inside p xs ys q (inl h) =
    inl (omega (arith, length-append (p ++ xs) q, length-append p xs, length-append (p ++ ys) q, length-append p ys))
before_inside p xs ys q (inr h) =
    let e : length xs ≡ length ys = h.0 in
    inr (
      omega (arith, length-append (p ++ xs) q, length-append p xs, length-append (p ++ ys) q, length-append p ys),
      less_in_front
          (p ++ xs) (p ++ ys) q (less_behind p xs ys h.1),
    )

pub each_itself : {A : Type 0} (xs ys : List A) → ((v : A) → IsOneOf v xs → IsOneOf v ys) → Each (λ v. IsOneOf v ys) xs
each_itself [] ys f = tt
each_itself (x ∷ xs) ys f = (f x (inl refl), each_itself xs ys (λ v k. f v (inr k)))

pub each_of_map : {A B : Type 0} (P : B → Type 0) (f : A → B) (xs : List A) → Each (λ x. P (f x)) xs → Each P (map f xs)
each_of_map P f [] h = tt
each_of_map P f (x ∷ xs) h = (h.0, each_of_map P f xs h.1)

pub in_order_inside : (p q : List ℕ) (xs : List (List ℕ)) → IsInOrder xs → IsInOrder (map (λ x. (p ++ x) ++ q) xs)
in_order_inside p q [] h = tt
in_order_inside p q (x ∷ xs) h =
    (each_of_map _ (λ y. (p ++ y) ++ q) xs (each_implied _ _ xs (λ y b. before_inside p x y q b) h.0), in_order_inside p q xs h.1)

-- lists in order, of which the second has all of the first, are equal, or the first is shorter
pub same_or_shorter : (xs ys : List (List ℕ)) →
    IsInOrder xs → IsInOrder ys → Each (λ x. IsOneOf x ys) xs → (xs ≡ ys) ⊎ (length xs < length ys)
same_or_shorter [] [] h k e = inl refl
same_or_shorter [] (y ∷ ys) h k e = inr (omega arith)
same_or_shorter (x ∷ xs) [] h k e = absurd e.0
same_or_shorter (x ∷ xs) (y ∷ ys) h k (inl s, e) = go (same_or_shorter xs ys h.1 k.1 (later xs h.0 e))
  where
    later : (zs : List (List ℕ)) → Each (λ z. IsBefore x z) zs → Each (λ z. IsOneOf z (y ∷ ys)) zs → Each (λ z. IsOneOf z ys) zs
    later [] b e = tt
    later (z ∷ zs) b (inl t, e) = absurd (not_before x (subst (IsBefore x) (t ∙ sym s) b.0))
    later (z ∷ zs) b (inr t, e) = (t, later zs b.1 e)

    go : (xs ≡ ys) ⊎ (length xs < length ys) → (x ∷ xs ≡ y ∷ ys) ⊎ (length (x ∷ xs) < length (y ∷ ys))
    go (inl t) = inl cc
    go (inr t) = inr (omega arith)
same_or_shorter (x ∷ xs) (y ∷ ys) h k (inr s, e) = go (same_or_shorter (x ∷ xs) ys h k.1 (s, later xs h.0 e))
  where
    after : IsBefore y x
    after = each_one (λ w. IsBefore y w) ys x k.0 s

    later : (zs : List (List ℕ)) → Each (λ z. IsBefore x z) zs → Each (λ z. IsOneOf z (y ∷ ys)) zs → Each (λ z. IsOneOf z ys) zs
    later [] b e = tt
    later (z ∷ zs) b (inl t, e) = absurd (not_before y (before_onward y x y after (subst (IsBefore x) t b.0)))
    later (z ∷ zs) b (inr t, e) = (t, later zs b.1 e)

    go : (x ∷ xs ≡ ys) ⊎ (length (x ∷ xs) < length ys) → (x ∷ xs ≡ y ∷ ys) ⊎ (length (x ∷ xs) < length (y ∷ ys))
    go (inl t) = inr (let e : length (x ∷ xs) ≡ length ys = ap length t in omega (arith, e))
    go (inr t) = inr (omega arith)

before_length : (xs ys : List ℕ) → IsBefore xs ys → length xs ≤ length ys
before_length xs ys (inl h) = omega arith
before_length xs ys (inr h) = let e = h.0 in omega (arith, e)

-- no list of a window is longer than the last one
pub none_longer : (xs : List (List ℕ)) (last : List ℕ) →
    IsInOrder xs → slice_get xs (length xs - 1) ≡ Some last → Each (λ w. length w ≤ length last) xs
none_longer [] last h e = tt
none_longer (x ∷ []) last h e = let q : x ≡ last = cc in (omega (arith, ap length q), tt)
none_longer (x ∷ y ∷ ys) last h e =
    let i : length (x ∷ y ∷ ys) - 1 ≡ suc (length (y ∷ ys) - 1) = omega arith in
    let r = none_longer (y ∷ ys) last h.1 (sym (ap (slice_get (x ∷ y ∷ ys)) i) ∙ e) in
    (omega (arith, before_length x y h.0.0, r.0), r)
