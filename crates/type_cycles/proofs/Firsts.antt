-- The first number of a range for which something is there.
use Rattle.std.proofs.Common.{ℕ, zero, suc, ◌≡◌, ◌<◌, ◌≤◌, ◌+◌, ◌⊎◌, inl, inr, List, [], ◌∷◌, ◌++◌, map, arith, ap, sym, ◌∙◌, refl, Option, Some, None, true, below_more}
use Rattle.std.specs.Prelude.{is_some}
use Rattle.std.specs.List.{range_with_len, Contains}
use Rattle.std.specs.Option.{option_or}
use Rattle.std.proofs.lemmas.List.Elements.{Contains-append_right}
use Rattle.std.proofs.lemmas.List.FromFn.{map-range_with_len_more}
use Rattle.type_cycles.specs.Cycles.{first_some}

pub first_is_none : {B : Type 0} (f : ℕ → Option B) (a n : ℕ) → ((j : ℕ) → a ≤ j → j < a + n → f j ≡ None) → first_some f (range_with_len a n) ≡ None
first_is_none f a zero none = refl
first_is_none f a (suc n) none =
    ap (λ o. option_or o (first_some f (range_with_len (a + 1) n))) (none a (omega arith) (omega arith))
    ∙ first_is_none f (a + 1) n (λ j h k. none j (omega arith) (omega arith))

here_or_later : (a j : ℕ) → a ≤ j → (a ≡ j) ⊎ (a < j)
here_or_later a j h = grind arith

kept : {B : Type 0} (o p : Option B) → (o ≡ None → ⊥) → option_or o p ≡ o
kept None p some = absurd (some refl)
kept (Some b) p some = refl

pub first_is : {B : Type 0} (f : ℕ → Option B) (a n j : ℕ) (o : Option B) → a ≤ j → j < a + n → ((i : ℕ) → a ≤ i → i < j → f i ≡ None) → f j ≡ o → (o ≡ None → ⊥) → first_some f (range_with_len a n) ≡ o
first_is f a zero j o from within none here some = absurd (omega arith)
first_is f a (suc n) j o from within none here some = elim (here_or_later a j from) [
  | inl e ↦ ap (λ p. option_or p (first_some f (range_with_len (a + 1) n))) (ap f e ∙ here) ∙ kept o (first_some f (range_with_len (a + 1) n)) some
  | inr h ↦ ap (λ p. option_or p (first_some f (range_with_len (a + 1) n))) (none a (omega arith) h)
      ∙ first_is f (a + 1) n j o (omega arith) (omega arith) (λ i l m. none i (omega arith) m) here some
]

-- what is found is there for an element
pub found_in : {A B : Type 0} (f : A → Option B) (xs : List A) (b : B) → first_some f xs ≡ Some b → (x : A) × Contains xs x × (f x ≡ Some b)
found_in {A = A} {B = B} f [] b e = absurd (cc)
found_in {A = A} {B = B} f (x ∷ xs) b e = by_first (λ h. found_in f xs b h) (f x) refl
  where
    later : (y : A) × Contains xs y × (f y ≡ Some b) → (y : A) × Contains (x ∷ xs) y × (f y ≡ Some b)
    later (y, within, at) = (y, Contains-append_right (x ∷ []) xs y within, at)

    by_first : (first_some f xs ≡ Some b → (y : A) × Contains xs y × (f y ≡ Some b)) → (o : Option B) → f x ≡ o → (y : A) × Contains (x ∷ xs) y × (f y ≡ Some b)
    by_first more None t = later (more (sym (ap (λ o. option_or o (first_some f xs)) t) ∙ e))
    by_first more (Some c) t = (x, (0, omega arith, refl), t ∙ (sym (ap (λ o. option_or o (first_some f xs)) t) ∙ e))

pub first_of_none : {A B : Type 0} (f : A → Option B) → ((x : A) → f x ≡ None) → (xs : List A) → first_some f xs ≡ None
first_of_none f none [] = refl
first_of_none f none (x ∷ xs) = ap (λ o. option_or o (first_some f xs)) (none x) ∙ first_of_none f none xs

-- one more value of a table by numbers
pub ranged_next : {A : Type 0} (f : ℕ → A) (now then : List A) (x : A) (k : ℕ) → now ≡ map f (range_with_len 0 k) → then ≡ now ++ x ∷ [] → x ≡ f k → then ≡ map f (range_with_len 0 (k + 1))
ranged_next f now then x k before more here =
    more ∙ ap (λ zs. zs ++ x ∷ []) before ∙ ap (λ z. map f (range_with_len 0 k) ++ z ∷ []) here ∙ sym (map-range_with_len_more f 0 k k (omega arith))

pub none_more : {B : Type 0} (f : ℕ → Option B) (i : ℕ) → ((k : ℕ) → k < i → f k ≡ None) → f i ≡ None → (k : ℕ) → k < i + 1 → f k ≡ None
none_more f i below at = below_more (λ k. f k ≡ None) i below at

pub is_there : {B : Type 0} (o : Option B) → is_some o ≡ true → o ≡ None → ⊥
is_there None t e = cc
is_there (Some b) t e = cc

-- where nothing is there, nothing is for any element

none_of_both : {B : Type 0} (o p : Option B) → option_or o p ≡ None → (o ≡ None) × (p ≡ None)
none_of_both None p e = (refl, e)
none_of_both (Some b) p e = absurd (cc)

pub none_at : {A B : Type 0} (f : A → Option B) (xs : List A) → first_some f xs ≡ None → (x : A) → Contains xs x → f x ≡ None
none_at f [] e x (i, within, at) = absurd (omega (arith, within))
none_at f (y ∷ ys) e x (zero, within, at) = ap f (sym at) ∙ (none_of_both (f y) (first_some f ys) e).0
none_at f (y ∷ ys) e x (suc i, within, at) = none_at f ys (none_of_both (f y) (first_some f ys) e).1 x (i, omega (arith, within), at)

pub none_in_range : {B : Type 0} (f : ℕ → Option B) (a n j : ℕ) → first_some f (range_with_len a n) ≡ None → a ≤ j → j < a + n → f j ≡ None
none_in_range f a zero j e from within = absurd (omega (arith, from, within))
none_in_range f a (suc n) j e from within =
    let parts : (f a ≡ None) × (first_some f (range_with_len (a + 1) n) ≡ None) = none_of_both (f a) (first_some f (range_with_len (a + 1) n)) e in
    elim (here_or_later a j from) [
      | inl same ↦ ap f (sym same) ∙ parts.0
      | inr h ↦ none_in_range f (a + 1) n j parts.1 (omega (arith, h)) (omega (arith, within))
    ]
