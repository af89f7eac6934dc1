-- Lists, one more element at a time.
use Rattle.std.proofs.Common.{ℕ, zero, suc, ◌≡◌, ◌<◌, ◌≤◌, ◌+◌, List, [], ◌∷◌, ◌++◌, Bool, true, false, length, map, take, get_or, refl, ap, sym, ◌∙◌, arith, if◌then◌else◌}
use Rattle.std.specs.List.{enumerate_from, filter, position_or_len}
use Rattle.std.proofs.lemmas.List.{length-map, length-take-le, map-append}
use Rattle.std.proofs.lemmas.List.Elements.{filter-append}
use Rattle.spec_core.specs.Terms.{TermTree, and_term, terms}
use Rattle.spec_core.proofs.Lists.{take_next}
use Rattle.type_contents.specs.Lists.{numbers_of}
use Rattle.static_presentation.specs.Moved.{moved_term, moved_terms}

-- the numbers of those that pass a test, where the first has this number
abbrev pub numbers_by : {A : Type 0} → (A → Bool) → ℕ → List A → List ℕ
numbers_by {A} p n xs = map (λ (e : ℕ × A). e.0) (filter (λ e. p e.1) (enumerate_from n xs))

abbrev if_so : {A : Type 0} → Bool → A → List A
if_so b x = if b then x ∷ [] else []

-- with one more behind them
numbers_behind : {A : Type 0} (p : A → Bool) (n : ℕ) (xs : List A) (x : A) → numbers_by p n (xs ++ x ∷ []) ≡ numbers_by p n xs ++ if_so (p x) (n + length xs)
numbers_behind {A} p n [] x = by (p x)
  where
    by : (b : Bool) → map (λ (e : ℕ × A). e.0) (if b then (n, x) ∷ [] else []) ≡ if_so b (n + 0)
    by true = ap (λ k. k ∷ []) (omega arith)
    by false = refl
numbers_behind {A} p n (y ∷ ys) x = by (p y) (numbers_behind p (n + 1) ys x ∙ ap (λ k. numbers_by p (n + 1) ys ++ if_so (p x) k) (omega arith))
  where
    by : (b : Bool) → numbers_by p (n + 1) (ys ++ x ∷ []) ≡ numbers_by p (n + 1) ys ++ if_so (p x) (n + length (y ∷ ys)) →
        map (λ (e : ℕ × A). e.0) (if b then (n, y) ∷ filter (λ e. p e.1) (enumerate_from (n + 1) (ys ++ x ∷ [])) else filter (λ e. p e.1) (enumerate_from (n + 1) (ys ++ x ∷ [])))
        ≡ map (λ (e : ℕ × A). e.0) (if b then (n, y) ∷ filter (λ e. p e.1) (enumerate_from (n + 1) ys) else filter (λ e. p e.1) (enumerate_from (n + 1) ys)) ++ if_so (p x) (n + length (y ∷ ys))
    by true h = ap (λ zs. n ∷ zs) h
    by false h = h

pub numbers-next : {A B : Type 0} (view : A → B) (p : B → Bool) (xs : List A) (i : ℕ) (x : A) (now later : List ℕ) → i < length xs → x ≡ get_or xs i x → now ≡ numbers_of p (map view (take i xs)) → later ≡ now ++ (if p (view x) then i ∷ [] else []) → later ≡ numbers_of p (map view (take (i + 1) xs))
numbers-next view p xs i x now later within at before more =
    let many : length (map view (take i xs)) ≡ i = length-map (take i xs) view ∙ length-take-le i xs (omega arith) in
    let count : i ≡ 0 + length (map view (take i xs)) = omega (arith, many) in
    more ∙ ap (λ z. z ++ if_so (p (view x)) i) before
    ∙ ap (λ k. numbers_by p 0 (map view (take i xs)) ++ if_so (p (view x)) k) count
    ∙ sym (ap (λ ys. numbers_of p (map view ys)) (take_next xs i x within at) ∙ ap (numbers_of p) (map-append view (take i xs) (x ∷ [])) ∙ numbers_behind p 0 (map view (take i xs)) (view x))

pub filter-next : {A B : Type 0} (view : A → B) (p : B → Bool) (xs : List A) (i : ℕ) (x : A) (now later : List B) → i < length xs → x ≡ get_or xs i x → now ≡ filter p (map view (take i xs)) → later ≡ now ++ (if p (view x) then view x ∷ [] else []) → later ≡ filter p (map view (take (i + 1) xs))
filter-next view p xs i x now later within at before more =
    more ∙ ap (λ z. z ++ if_so (p (view x)) (view x)) before
    ∙ sym (ap (λ ys. filter p (map view ys)) (take_next xs i x within at) ∙ ap (filter p) (map-append view (take i xs) (x ∷ [])) ∙ filter-append p (map view (take i xs)) (view x ∷ []))

-- the first of a mapped list that passes a test
pub mapped-place : {A B : Type 0} (view : A → B) (p : B → Bool) (xs : List A) (i : ℕ) (x : A) → i < length xs → x ≡ get_or xs i x → ((k : ℕ) (d : A) → k < i → p (view (get_or xs k d)) ≡ false) → p (view x) ≡ true → i ≡ position_or_len p (map view xs)
mapped-place view p [] i x within at fails passes = absurd (omega arith)
mapped-place view p (y ∷ ys) zero x within at fails passes = rw (ap (λ z. p (view z)) (sym at) ∙ passes) refl
mapped-place view p (y ∷ ys) (suc i) x within at fails passes =
    rw (fails 0 x (omega arith)) (omega (arith, mapped-place view p ys i x (omega arith) at (λ k d h. fails (suc k) d (omega (arith, h))) passes))

pub mapped-no-place : {A B : Type 0} (view : A → B) (p : B → Bool) (xs : List A) (i : ℕ) → length xs ≤ i → ((k : ℕ) (d : A) → k < i → p (view (get_or xs k d)) ≡ false) → length xs ≡ position_or_len p (map view xs)
mapped-no-place view p [] i past fails = refl
mapped-no-place view p (y ∷ ys) zero past fails = absurd (omega arith)
mapped-no-place view p (y ∷ ys) (suc i) past fails =
    rw (fails 0 y (omega arith)) (omega (arith, mapped-no-place view p ys i (omega arith) (λ k d h. fails (suc k) d (omega (arith, h)))))

-- terms that are moved one by one
pub moved-of : {A : Type 0} (operations : List ℕ) (view : A → TermTree) (xs : List A) → terms (map (λ x. moved_term operations (view x)) xs) ≡ moved_terms operations (terms (map view xs))
moved-of operations view [] = refl
moved-of operations view (x ∷ xs) = ap (λ z. and_term (moved_term operations (view x)) z) (moved-of operations view xs)
