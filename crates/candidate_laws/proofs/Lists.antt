-- Lists in the places of elements, and filters.
use Rattle.std.proofs.Common.{◌≡◌, inl, inr, ◌++◌, ◌∙◌, List, [], ◌∷◌, map, filter, flat_map, refl, sym, ap, Bool, true, false, cond}
use Rattle.std.proofs.Common.{if◌then◌else◌}
use Rattle.std.proofs.lemmas.List.Elements.{filter-append}
use Rattle.std.proofs.lemmas.List.{map-append}
use Rattle.spec_core.specs.Lists.{IsOneOf}

pub flat_ones : {A B : Type 0} (f : A → B) (xs : List A) → flat_map (λ x. f x ∷ []) xs ≡ map f xs
flat_ones f [] = refl
flat_ones f (x ∷ xs) = ap (λ z. f x ∷ z) (flat_ones f xs)

pub flat_none : {A B : Type 0} (f : A → List B) (xs : List A) → ((x : A) → f x ≡ []) → flat_map f xs ≡ []
flat_none f [] h = refl
flat_none f (x ∷ xs) h = ap (λ z. z ++ flat_map f xs) (h x) ∙ flat_none f xs h

pub filter_flat : {A B : Type 0} (p : B → Bool) (f : A → List B) (xs : List A) →
    flat_map (λ x. filter p (f x)) xs ≡ filter p (flat_map f xs)
filter_flat p f [] = refl
filter_flat p f (x ∷ xs) = ap (λ z. filter p (f x) ++ z) (filter_flat p f xs) ∙ sym (filter-append p (f x) (flat_map f xs))

pub flat_same_in : {A B : Type 0} (f g : A → List B) (xs : List A) → ((x : A) → IsOneOf x xs → f x ≡ g x) → flat_map f xs ≡ flat_map g xs
flat_same_in f g [] h = refl
flat_same_in f g (x ∷ xs) h =
    ap (λ z. z ++ flat_map f xs) (h x (inl refl)) ∙ ap (λ z. g x ++ z) (flat_same_in f g xs (λ y i. h y (inr i)))

pub map_flat : {A B C : Type 0} (f : B → C) (g : A → List B) (xs : List A) → map f (flat_map g xs) ≡ flat_map (λ x. map f (g x)) xs
map_flat f g [] = refl
map_flat f g (x ∷ xs) = map-append f (g x) (flat_map g xs) ∙ ap (λ z. map f (g x) ++ z) (map_flat f g xs)

-- a filter that lets pass whatever a second one lets pass changes nothing for the second one
pub filter_passed : {A : Type 0} (p q : A → Bool) (xs : List A) → ((x : A) → IsOneOf x xs → q x ≡ true → p x ≡ true) →
    filter q (filter p xs) ≡ filter q xs
filter_passed p q [] h = refl
filter_passed p q (x ∷ xs) h = by_first (p x) refl (filter_passed p q xs (λ y i. h y (inr i)))
  where
    dropped : (b : Bool) → q x ≡ b → p x ≡ false → filter q xs ≡ cond b (x ∷ filter q xs) (filter q xs)
    dropped true e f = let n : false ≡ true = sym f ∙ h x (inl refl) e in absurd (cc)
    dropped false e f = refl

    kept : (b : Bool) → filter q (filter p xs) ≡ filter q xs →
        cond b (x ∷ filter q (filter p xs)) (filter q (filter p xs)) ≡ cond b (x ∷ filter q xs) (filter q xs)
    kept true k = ap (λ z. x ∷ z) k
    kept false k = k

    by_first : (b : Bool) → p x ≡ b → filter q (filter p xs) ≡ filter q xs →
        filter q (cond b (x ∷ filter p xs) (filter p xs)) ≡ cond (q x) (x ∷ filter q xs) (filter q xs)
    by_first true e k = kept (q x) k
    by_first false e k = k ∙ dropped (q x) refl e

-- a filter of images, brought back
pub filter_back : {A B : Type 0} (f : A → B) (back : B → A) (q : B → Bool) (xs : List A) → ((x : A) → back (f x) ≡ x) →
    map back (filter q (map f xs)) ≡ filter (λ x. q (f x)) xs
filter_back f back q [] h = refl
filter_back f back q (x ∷ xs) h = by_test (q (f x)) (filter_back f back q xs h)
  where
    by_test : (b : Bool) → map back (filter q (map f xs)) ≡ filter (λ x. q (f x)) xs →
        map back (cond b (f x ∷ filter q (map f xs)) (filter q (map f xs))) ≡
        cond b (x ∷ filter (λ x. q (f x)) xs) (filter (λ x. q (f x)) xs)
    by_test true k = ap (λ z. z ∷ map back (filter q (map f xs))) (h x) ∙ ap (λ z. x ∷ z) k
    by_test false k = k

-- the images of those that pass, and of those the elements that pass
pub map_passed : {A B : Type 0} (p : A → Bool) (q : B → Bool) (f : A → B) (xs : List A) → ((x : A) → p x ≡ q (f x)) →
    map f (filter p xs) ≡ filter q (map f xs)
map_passed p q f [] h = refl
map_passed p q f (x ∷ xs) h = by_test (p x) (q (f x)) (h x) (map_passed p q f xs h)
  where
    by_test : (b c : Bool) → b ≡ c → map f (filter p xs) ≡ filter q (map f xs) →
        map f (cond b (x ∷ filter p xs) (filter p xs)) ≡ cond c (f x ∷ filter q (map f xs)) (filter q (map f xs))
    by_test true true e k = ap (λ z. f x ∷ z) k
    by_test false false e k = k
    by_test true false e k = let n : true ≡ false = e in absurd cc
    by_test false true e k = let n : false ≡ true = e in absurd cc

pub flat_passed : {A B : Type 0} (p : A → Bool) (q : B → Bool) (f g : A → List B) (xs : List A) →
    ((x : A) → (if p x then f x else []) ≡ filter q (g x)) → flat_map f (filter p xs) ≡ filter q (flat_map g xs)
flat_passed p q f g [] h = refl
flat_passed p q f g (x ∷ xs) h = by_test (p x) (h x) (flat_passed p q f g xs h) ∙ sym (filter-append q (g x) (flat_map g xs))
  where
    by_test : (b : Bool) → (if b then f x else []) ≡ filter q (g x) → flat_map f (filter p xs) ≡ filter q (flat_map g xs) →
        flat_map f (cond b (x ∷ filter p xs) (filter p xs)) ≡ filter q (g x) ++ filter q (flat_map g xs)
    by_test true e k = ap (λ z. z ++ flat_map f (filter p xs)) e ∙ ap (λ z. filter q (g x) ++ z) k
    by_test false e k = k ∙ ap (λ z. z ++ filter q (flat_map g xs)) e

-- elements with nothing in their places may be left out
pub flat_left : {A B : Type 0} (p : A → Bool) (f : A → List B) (xs : List A) → ((x : A) → p x ≡ false → f x ≡ []) →
    flat_map f (filter p xs) ≡ flat_map f xs
flat_left p f [] h = refl
flat_left p f (x ∷ xs) h = by_test (p x) refl (flat_left p f xs h)
  where
    by_test : (b : Bool) → p x ≡ b → flat_map f (filter p xs) ≡ flat_map f xs →
        flat_map f (cond b (x ∷ filter p xs) (filter p xs)) ≡ f x ++ flat_map f xs
    by_test true e k = ap (λ z. f x ++ z) k
    by_test false e k = k ∙ ap (λ z. z ++ flat_map f xs) (sym (h x e))
