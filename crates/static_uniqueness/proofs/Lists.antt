-- What is said of lists whose elements are alike.
use Rattle.std.proofs.Common.{ℕ, zero, suc, ◌≡◌, ◌+◌, ◌∙◌, refl, ap, List, [], ◌∷◌, ◌++◌, length, map, Bool, ◌||◌, not, cond, Option, Some, None, Vec, Global}
use Rattle.std.specs.List.{flat_map, list_any, position_or_len, zip}
use Rattle.lotos_ast.specs.declared.refusal.Refusal.{Refusal}
use Rattle.type_contents.specs.Lists.{listed}
use Rattle.type_contents.specs.Rounds as rounds
use Rattle.static_equations.specs.Gathered.{Gathers, none, further}
use Rattle.syntax_laws.specs.Alike.{AreAlike, IfThere, HaveSame, HaveAlike}

pub length-same : {A : Type 0} (R : A → A → Type 0) (xs ys : List A) → AreAlike R xs ys → length xs ≡ length ys
length-same R [] [] h = refl
length-same R [] (y ∷ ys) h = absurd h
length-same R (x ∷ xs) [] h = absurd h
length-same R (x ∷ xs) (y ∷ ys) h = ap suc (length-same R xs ys h.1)

pub map-same : {A B : Type 0} (R : A → A → Type 0) (f g : A → B) → ((x y : A) → R x y → f x ≡ g y) → (xs ys : List A) → AreAlike R xs ys → map f xs ≡ map g ys
map-same R f g each [] [] h = refl
map-same R f g each [] (y ∷ ys) h = absurd h
map-same R f g each (x ∷ xs) [] h = absurd h
map-same R f g each (x ∷ xs) (y ∷ ys) h = λ i. each x y h.0 i ∷ map-same R f g each xs ys h.1 i

pub flat-same : {A B : Type 0} (R : A → A → Type 0) (f g : A → List B) → ((x y : A) → R x y → f x ≡ g y) → (xs ys : List A) → AreAlike R xs ys → flat_map f xs ≡ flat_map g ys
flat-same R f g each [] [] h = refl
flat-same R f g each [] (y ∷ ys) h = absurd h
flat-same R f g each (x ∷ xs) [] h = absurd h
flat-same R f g each (x ∷ xs) (y ∷ ys) h = λ i. each x y h.0 i ++ flat-same R f g each xs ys h.1 i

pub any-same : {A : Type 0} (R : A → A → Type 0) (p q : A → Bool) → ((x y : A) → R x y → p x ≡ q y) → (xs ys : List A) → AreAlike R xs ys → list_any p xs ≡ list_any q ys
any-same R p q each [] [] h = refl
any-same R p q each [] (y ∷ ys) h = absurd h
any-same R p q each (x ∷ xs) [] h = absurd h
any-same R p q each (x ∷ xs) (y ∷ ys) h = λ i. each x y h.0 i || any-same R p q each xs ys h.1 i

pub position-same : {A : Type 0} (R : A → A → Type 0) (p q : A → Bool) → ((x y : A) → R x y → p x ≡ q y) → (xs ys : List A) → AreAlike R xs ys → position_or_len p xs ≡ position_or_len q ys
position-same R p q each [] [] h = refl
position-same R p q each [] (y ∷ ys) h = absurd h
position-same R p q each (x ∷ xs) [] h = absurd h
position-same R p q each (x ∷ xs) (y ∷ ys) h = λ i. cond (not (each x y h.0 i)) (1 + position-same R p q each xs ys h.1 i) 0

pub append-alike : {A : Type 0} (R : A → A → Type 0) (xs ys vs ws : List A) → AreAlike R xs ys → AreAlike R vs ws → AreAlike R (xs ++ vs) (ys ++ ws)
append-alike R [] [] vs ws h k = k
append-alike R [] (y ∷ ys) vs ws h k = absurd h
append-alike R (x ∷ xs) [] vs ws h k = absurd h
append-alike R (x ∷ xs) (y ∷ ys) vs ws h k = (h.0, append-alike R xs ys vs ws h.1 k)

pub flat-alike : {A B : Type 0} (R : A → A → Type 0) (S : B → B → Type 0) (f g : A → List B) → ((x y : A) → R x y → AreAlike S (f x) (g y)) → (xs ys : List A) → AreAlike R xs ys → AreAlike S (flat_map f xs) (flat_map g ys)
flat-alike R S f g each [] [] h = tt
flat-alike R S f g each [] (y ∷ ys) h = absurd h
flat-alike R S f g each (x ∷ xs) [] h = absurd h
flat-alike R S f g each (x ∷ xs) (y ∷ ys) h = append-alike S (f x) (g y) (flat_map f xs) (flat_map g ys) (each x y h.0) (flat-alike R S f g each xs ys h.1)

-- elements with what stands beside them
abbrev pub AreBesideSame : {A B : Type 0} → (A → A → Type 0) → A × B → A × B → Type 0
AreBesideSame R a b = R a.0 b.0 × (a.1 ≡ b.1)

pub zip-alike : {A B : Type 0} (R : A → A → Type 0) (xs ys : List A) (ts : List B) → AreAlike R xs ys → AreAlike (AreBesideSame R) (zip xs ts) (zip ys ts)
zip-alike R [] [] ts h = tt
zip-alike R [] (y ∷ ys) ts h = absurd h
zip-alike R (x ∷ xs) [] ts h = absurd h
zip-alike R (x ∷ xs) (y ∷ ys) [] h = tt
zip-alike R (x ∷ xs) (y ∷ ys) (t ∷ ts) h = ((h.0, refl), zip-alike R xs ys ts h.1)

pub rounds-same : {D A : Type 0} (R : D → D → Type 0) (nothing : A) (make other : List A → D → A) → ((t : List A) (x y : D) → R x y → make t x ≡ other t y) → (xs ys : List D) → AreAlike R xs ys → (n : ℕ) →
    rounds.rounds nothing make xs n ≡ rounds.rounds nothing other ys n
rounds-same R nothing make other each xs ys h zero = map-same R (λ _. nothing) (λ _. nothing) (λ x y r. refl) xs ys h
rounds-same R nothing make other each xs ys h (suc n) =
    (λ i. map (make (rounds-same R nothing make other each xs ys h n i)) xs)
    ∙ map-same R (make (rounds.rounds nothing other ys n)) (other (rounds.rounds nothing other ys n)) (each (rounds.rounds nothing other ys n)) xs ys h

pub table-same : {D A : Type 0} (R : D → D → Type 0) (nothing : A) (make other : List A → D → A) → ((t : List A) (x y : D) → R x y → make t x ≡ other t y) → (xs ys : List D) → AreAlike R xs ys →
    rounds.table nothing make xs ≡ rounds.table nothing other ys
table-same R nothing make other each xs ys h = (λ i. rounds.rounds nothing make xs (length-same R xs ys h i)) ∙ rounds-same R nothing make other each xs ys h (length ys)

pub gathers-alike : {A B : Type 0} (R : A → A → Type 0) (P Q : A → List B → List Refusal → Type 0) → ((x y : A) → R x y → (found : List B) (rs : List Refusal) → P x found rs → Q y found rs) → (xs ys : List A) → AreAlike R xs ys →
    (found : List B) (rs : List Refusal) → Gathers P xs found rs → Gathers Q ys found rs
gathers-alike R P Q each [] [] h found rs none = none
gathers-alike R P Q each [] (y ∷ ys) h found rs g = absurd h
gathers-alike R P Q each (x ∷ xs) [] h found rs g = absurd h
gathers-alike R P Q each (x ∷ xs) (y ∷ ys) h found rs (further _ _ zs all qs refusals p g) =
    further y ys zs all qs refusals (each x y h.0 zs qs p) (gathers-alike R P Q each xs ys h.1 all refusals g)

pub listed-same : {A : Type 0} (o p : Option (Vec A Global)) → IfThere HaveSame o p → listed o ≡ listed p
listed-same None None h = refl
listed-same None (Some w) h = absurd h
listed-same (Some v) None h = absurd h
listed-same (Some v) (Some w) h = h

pub listed-alike : {A : Type 0} (R : A → A → Type 0) (o p : Option (Vec A Global)) → IfThere (HaveAlike R) o p → AreAlike R (listed o) (listed p)
listed-alike R None None h = tt
listed-alike R None (Some w) h = absurd h
listed-alike R (Some v) None h = absurd h
listed-alike R (Some v) (Some w) h = h
