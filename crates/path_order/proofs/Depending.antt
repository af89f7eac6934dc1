-- What stands in equations, and what depends on what.
use Rattle.std.proofs.Common.{ℕ, zero, suc, ◌≡◌, ◌<◌, ◌≤◌, ◌+◌, List, [], ◌∷◌, ◌++◌, Bool, true, false, length, map, take, get_or, nat_eq, refl, sym, subst, ap, arith, inl, inr, ◌⊎◌, ◌∙◌, if◌then◌else◌, append_assoc, Some, None, ◌||◌, eq-eqb, add-one}
use Rattle.std.specs.List.{list_any, slice_get, slice_index_or}
use Rattle.std.proofs.lemmas.Bool.Decides.{Decides-eqb}
use Rattle.std.proofs.lemmas.List.{append-nil}
use Rattle.std.proofs.lemmas.Map.Views.{Contains-from_any}
use Rattle.indexmap.specs.IndexSet.{insert_key}
use Rattle.spec_core.specs.declared.equation.Equation.{Equation}
use Rattle.spec_core.specs.Lists.{Each, OneOf, IsOneOf}
use Rattle.spec_core.specs.Theories.{Theory, ConditionalEquation, Heads, equation_of}
use Rattle.spec_core.specs.Order.{HasOperation, PremisesHaveOperation, DependsOn, itself, onward}
use Rattle.spec_core.proofs.Members.{one_left, one_right, one_parts, one_contained}
use Rattle.path_order.specs.Mentioning.{IsNoted, AreMentions, HeadIsBelow, AreDependents, IsGrown}

-- an operation that depends on one that heads an equation heads one
pub heads_one : (theory : Theory) {g f : ℕ} → OneOf (Heads f) theory.equations → DependsOn theory g f → OneOf (Heads g) theory.equations
heads_one theory o (itself f) = o
heads_one theory o (onward f g h m d) = first theory.equations m
  where
    first : (es : List ConditionalEquation) → OneOf (λ e. Heads f e × (HasOperation g e.left ⊎ HasOperation g e.right ⊎ PremisesHaveOperation g e.premises)) es → OneOf (Heads f) es
    first [] m = m
    first (e ∷ es) (inl m) = inl m.0
    first (e ∷ es) (inr m) = inr (first es m)

pub at_one_of : {A : Type 0} (P : A → Type 0) (x : A) (xs : List A) → OneOf (λ y. x ≡ y) xs → P x → OneOf P xs
at_one_of P x [] o h = absurd o
at_one_of P x (y ∷ ys) (inl e) h = inl (subst P e h)
at_one_of P x (y ∷ ys) (inr o) h = inr (at_one_of P x ys o h)

-- what a loop over a list comes to is an element of it
pub one_of_at : {A B : Type 0} (f : A → B) (xs ys : List A) (i : ℕ) (x : A) → ys ≡ xs → i < length ys → x ≡ get_or ys i x → OneOf (λ y. f x ≡ y) (map f xs)
one_of_at {A = A} f xs ys i x same within at = subst (λ zs. OneOf (λ y. f x ≡ y) (map f zs)) same (go ys i within at)
  where
    go : (ys : List A) (i : ℕ) → i < length ys → x ≡ get_or ys i x → OneOf (λ y. f x ≡ y) (map f ys)
    go [] i w e = absurd (omega arith)
    go (y ∷ ys) zero w e = inl (ap f e)
    go (y ∷ ys) (suc i) w e = inr (go ys i (omega arith) e)

-- where all operations that head equations are below a bound
pub within : (bound f : ℕ) (es : List ConditionalEquation) → Each (HeadIsBelow bound) es → OneOf (Heads f) es → f < bound
within bound f [] all o = absurd o
within bound f (e ∷ es) all (inl h) = all.0 f h
within bound f (e ∷ es) all (inr o) = within bound f es all.1 o

pub raised : (low high : ℕ) (es : List Equation) (i : ℕ) → low ≤ high →
    Each (λ e. HeadIsBelow low (equation_of e)) (take i es) → Each (λ e. HeadIsBelow high (equation_of e)) (take i es)
raised low high es i le all = go (take i es) all
  where
    go : (es : List Equation) → Each (λ e. HeadIsBelow low (equation_of e)) es → Each (λ e. HeadIsBelow high (equation_of e)) es
    go [] all = tt
    go (e ∷ es) all = ((λ f h. let k = all.0 f h in omega (arith, k, le)), go es all.1)

-- operations among which are one and all whose equations mention one of them are those that depend on it
module _ (theory : Theory) (rows : List (List ℕ)) (made : AreMentions theory rows) (f : ℕ) (heads : OneOf (Heads f) theory.equations) where
  found_all : (all : List ℕ) → IsOneOf f all → ((g h : ℕ) → IsOneOf g all → IsNoted rows g h → IsOneOf h all) → (g : ℕ) → DependsOn theory g f → IsOneOf g all
  found_all all start closed g d = go d heads start
    where
      go : {g f : ℕ} → DependsOn theory g f → OneOf (Heads f) theory.equations → IsOneOf f all → IsOneOf g all
      go (itself f) o i = i
      go (onward f g h m d) o i = closed g f (go d o i)
          (made.whole g f m (within (length rows) g theory.equations made.bound (heads_one theory o d)))

  pub are_dependents : (all : List ℕ) → IsOneOf f all → ((g h : ℕ) → IsOneOf g all → IsNoted rows g h → IsOneOf h all) →
      ((g : ℕ) → IsOneOf g all → DependsOn theory g f) → AreDependents theory f all
  are_dependents all start closed sound g = (sound g, found_all all start closed g)

-- a number among others, by the test
pub any_is_one : (x : ℕ) (keys : List ℕ) → list_any (nat_eq x) keys ≡ true → IsOneOf x keys
any_is_one x keys h = one_contained x keys (Contains-from_any (λ a b. (Decides-eqb a b).0) x keys h)

either : (a b : Bool) → a ≡ true ⊎ b ≡ true → (a || b) ≡ true
either true b h = refl
either false b (inl e) = absurd (let n : ⊥ = cc in n)
either false b (inr e) = e

pub one_is_any : (x : ℕ) (keys : List ℕ) → IsOneOf x keys → list_any (nat_eq x) keys ≡ true
one_is_any x [] i = absurd i
one_is_any x (y ∷ ys) (inl e) = either (nat_eq x y) (list_any (nat_eq x) ys) (inl (eq-eqb x y e))
one_is_any x (y ∷ ys) (inr i) = either (nat_eq x y) (list_any (nat_eq x) ys) (inr (one_is_any x ys i))

-- a list that grows by those of a row
pub grown_begin : (keys : List ℕ) → IsGrown [] keys keys
grown_begin keys = record { more = []; grown = sym (append-nil keys); only = λ h i. inl i; added = λ h i. absurd i }

pub grown_next : (row old keys new : List ℕ) (x : ℕ) → IsGrown row old keys → new ≡ insert_key nat_eq keys x → IsGrown (row ++ x ∷ []) old new
grown_next row old keys new x g is = subst (IsGrown (row ++ x ∷ []) old) (sym is) (by_test (list_any (nat_eq x) keys) refl)
  where
    by_test : (b : Bool) → list_any (nat_eq x) keys ≡ b → IsGrown (row ++ x ∷ []) old (if b then keys else keys ++ x ∷ [])
    by_test true has = record {
      more = g.more;
      grown = g.grown;
      only = λ h i. elim (g.only h i) [ inl o ↦ inl o | inr r ↦ inr (one_left h row (x ∷ []) r) ];
      added = λ h i. elim (one_parts h row (x ∷ []) i) [
        | inl r ↦ g.added h r
        | inr l ↦ elim l [ inl e ↦ subst (λ k. IsOneOf k keys) (sym e) (any_is_one x keys has) | inr n ↦ absurd n ]
      ];
    }
    by_test false has = record {
      more = g.more ++ x ∷ [];
      grown = ap (λ ks. ks ++ x ∷ []) g.grown ∙ append_assoc old g.more (x ∷ []);
      only = λ h i. elim (one_parts h keys (x ∷ []) i) [
        | inl k ↦ elim (g.only h k) [ inl o ↦ inl o | inr r ↦ inr (one_left h row (x ∷ []) r) ]
        | inr l ↦ inr (one_right h row (x ∷ []) l)
      ];
      added = λ h i. elim (one_parts h row (x ∷ []) i) [
        | inl r ↦ one_left h keys (x ∷ []) (g.added h r)
        | inr l ↦ one_right h keys (x ∷ []) l
      ];
    }

-- a row more: what is behind the place that a walk comes to stays behind it
pub closed_next : (rows : List (List ℕ)) (i x : ℕ) (old new : List ℕ) → slice_get old i ≡ Some x → IsGrown (slice_index_or rows x []) old new →
    ((g h : ℕ) → IsOneOf g (take i old) → IsNoted rows g h → IsOneOf h old) → (g h : ℕ) → IsOneOf g (take (i + 1) new) → IsNoted rows g h → IsOneOf h new
closed_next rows i x old new at grown closed g h o n = elim (front i old at (rw (← add-one) (subst (λ ks. IsOneOf g (take (i + 1) ks)) grown.grown o))) [
  | inl early ↦ subst (IsOneOf h) (sym grown.grown) (one_left h old grown.more (closed g h early n))
  | inr e ↦ grown.added h (subst (λ k. IsNoted rows k h) e n)
]
  where
    front : (i : ℕ) (old : List ℕ) → slice_get old i ≡ Some x → IsOneOf g (take (suc i) (old ++ grown.more)) → IsOneOf g (take i old) ⊎ (g ≡ x)
    front i [] at o = absurd (cc)
    front zero (y ∷ ys) at (inl e) = inr (e ∙ cc)
    front zero (y ∷ ys) at (inr n) = absurd n
    front (suc i) (y ∷ ys) at (inl e) = inl (inl e)
    front (suc i) (y ∷ ys) at (inr o) = elim (front i ys at o) [ inl a ↦ inl (inr a) | inr b ↦ inr b ]

-- a set begins with one number
pub begun : (old new : List ℕ) (x : ℕ) → old ≡ [] → new ≡ insert_key nat_eq old x → new ≡ x ∷ []
begun old new x empty is = is ∙ ap (λ ks. insert_key nat_eq ks x) empty

-- a place behind all elements
take_nothing : (i : ℕ) (xs : List ℕ) → xs ≡ [] → take i xs ≡ []
take_nothing zero xs e = refl
take_nothing (suc i) [] e = refl
take_nothing (suc i) (x ∷ xs) e = absurd (let n : ⊥ = cc in n)

pub taken_whole : (xs : List ℕ) (i : ℕ) → slice_get xs i ≡ None → take i xs ≡ xs
taken_whole [] i none = take_nothing i [] refl
taken_whole (x ∷ xs) zero none = absurd (let n : ⊥ = cc in n)
taken_whole (x ∷ xs) (suc i) none = ap (λ ys. x ∷ ys) (taken_whole xs i none)
