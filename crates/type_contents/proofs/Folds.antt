-- Loops that add each item once.
use Rattle.std.proofs.Common.{◌≡◌, ◌∙◌, refl, sym, ap, List, [], ◌∷◌, ◌++◌, ℕ, ◌+◌, ◌<◌, length, map, take, get_or, Bool, true, false, arith, add-one}
use Rattle.std.specs.Prelude.{if◌then◌else◌}
use Rattle.std.specs.List.{filter, fold, flat_map, range_with_len}
use Rattle.std.proofs.lemmas.List.{map-append, append-nil}
use Rattle.std.proofs.lemmas.List.Sums.{fold-append}
use Rattle.std.proofs.lemmas.List.Elements.{filter-append}
use Rattle.std.proofs.lemmas.Grind.{flat_map-append}
use Rattle.spec_core.proofs.Lists.{range_suc, take_next}

one_filtered : {A B : Type 0} (w : B → A → B) (p : A → Bool) (a : B) (y : A) → fold w a (filter p (y ∷ [])) ≡ (if p y then w a y else a)
one_filtered {A = A} {B = B} w p a y = by_test (p y) refl
  where
    by_test : (b : Bool) → p y ≡ b → fold w a (filter p (y ∷ [])) ≡ (if p y then w a y else a)
    by_test true e = rw e refl
    by_test false e = rw e refl

-- one more element, if it passes a test
pub filtered_next : {A B C : Type 0} (w : B → A → B) (p : A → Bool) (g : C → A) (a now next : B) (xs : List C) (i : ℕ) (x : C) → i < length xs → x ≡ get_or xs i x → now ≡ fold w a (filter p (map g (take i xs))) → next ≡ (if p (g x) then w now (g x) else now) → next ≡ fold w a (filter p (map g (take (i + 1) xs)))
filtered_next w p g a now next xs i x within at before more =
    more ∙ sym (one_filtered w p now (g x)) ∙ ap (λ z. fold w z (filter p (g x ∷ []))) before ∙ sym (fold-append w a (filter p (map g (take i xs))) (filter p (g x ∷ [])))
    ∙ ap (fold w a) (sym (ap (λ zs. filter p (map g zs)) (take_next xs i x within at) ∙ ap (filter p) (map-append g (take i xs) (x ∷ [])) ∙ filter-append p (map g (take i xs)) (g x ∷ [])))

zero_plus : (k : ℕ) → 0 + k ≡ k
zero_plus k = omega arith

-- what one more number gives
pub ranged_next : {A B : Type 0} (w : B → A → B) (f : ℕ → List A) (a now next : B) (k : ℕ) → now ≡ fold w a (flat_map f (range_with_len 0 k)) → next ≡ fold w now (f k) → next ≡ fold w a (flat_map f (range_with_len 0 (k + 1)))
ranged_next w f a now next k before more =
    rw add-one (more ∙ ap (λ z. fold w z (f k)) before ∙ sym (fold-append w a (flat_map f (range_with_len 0 k)) (f k))
    ∙ ap (fold w a) (sym (ap (flat_map f) (range_suc 0 k ∙ ap (λ z. range_with_len 0 k ++ z ∷ []) (zero_plus k)) ∙ flat_map-append f (range_with_len 0 k) (k ∷ []) ∙ ap (λ z. flat_map f (range_with_len 0 k) ++ z) (append-nil (f k)))))

-- one more element
pub folded_next : {A B C : Type 0} (w : B → A → B) (g : C → A) (a now next : B) (xs : List C) (i : ℕ) (x : C) → i < length xs → x ≡ get_or xs i x → now ≡ fold w a (map g (take i xs)) → next ≡ w now (g x) → next ≡ fold w a (map g (take (i + 1) xs))
folded_next w g a now next xs i x within at before more =
    more ∙ ap (λ z. w z (g x)) before ∙ sym (fold-append w a (map g (take i xs)) (g x ∷ []))
    ∙ ap (fold w a) (sym (ap (map g) (take_next xs i x within at) ∙ map-append g (take i xs) (x ∷ [])))

-- the elements of one more list
pub lists_next : {A B C : Type 0} (w : B → A → B) (g : C → List A) (a now next : B) (xs : List C) (i : ℕ) (x : C) → i < length xs → x ≡ get_or xs i x → now ≡ fold w a (flat_map (λ l. l) (map g (take i xs))) → next ≡ fold w now (g x) → next ≡ fold w a (flat_map (λ l. l) (map g (take (i + 1) xs)))
lists_next w g a now next xs i x within at before more =
    more ∙ ap (λ z. fold w z (g x)) before ∙ sym (fold-append w a (flat_map (λ l. l) (map g (take i xs))) (g x))
    ∙ ap (fold w a) (sym (ap (λ zs. flat_map (λ l. l) (map g zs)) (take_next xs i x within at) ∙ ap (flat_map (λ l. l)) (map-append g (take i xs) (x ∷ []))
    ∙ flat_map-append (λ l. l) (map g (take i xs)) (g x ∷ []) ∙ ap (λ z. flat_map (λ l. l) (map g (take i xs)) ++ z) (append-nil (g x))))
