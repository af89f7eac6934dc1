-- What is decided, and what is found first.
use Rattle.std.proofs.Common.{◌≡◌, ◌⊎◌, inl, inr, List, [], ◌∷◌, refl, sym, ap, subst, ◌∙◌, Option, Some, None, false}
use Rattle.std.proofs.lemmas.Option.{none-some, same_Some}
use Rattle.spec_core.specs.Lists.{IsOneOf}
use Rattle.decision_trees.specs.Decisions.{Question, expand, judge, ends, asks_items, asks_verdict, result, asked}
use Rattle.decision_trees.specs.Known.{where_known, decided, known_or, unless_known, found}
use Rattle.decision_trees.specs.Laws.{DecidedIsSo, DecidedOrFound, FirstIsAsked}

pub known_case : {X R : Type 0} (o : Option X) (k : X → Option R) (r : R) → where_known o k ≡ Some r → (x : X) × (o ≡ Some x) × (k x ≡ Some r)
known_case None k r e = absurd (none-some _ e)
known_case (Some x) k r e = (x, refl, e)

pub decided_is_so : (I A R : Type 0) → DecidedIsSo I A R
decided_is_so I A R known (ends r) q s x e = same_Some _ _ e
decided_is_so I A R known (asks_items g k) q s x e =
    let c = known_case (known.items g) (λ xs. decided known (k xs)) q e in
    ap (λ xs. result s (k xs)) (x.items g c.0 c.1) ∙ decided_is_so I A R known (k c.0) q s x c.2
decided_is_so I A R known (asks_verdict a k) q s x e =
    let c = known_case (known.verdict a) (λ b. decided known (k b)) q e in
    ap (λ b. result s (k b)) (x.verdict a c.0 c.1) ∙ decided_is_so I A R known (k c.0) q s x c.2

abbrev Either : (A R : Type 0) → Option R → List (Question A) → Type 0
Either A R d qs = ((r : R) × (d ≡ Some r) × (qs ≡ [])) ⊎ ((q : Question A) × (rest : List (Question A)) × (d ≡ None) × (qs ≡ q ∷ rest))

either_case : {X A R : Type 0} (o : Option X) (y : X) (d : X → Option R) (n : X → List (Question A)) (q : Question A) →
    ((x : X) → Either A R (d x) (n x)) → Either A R (where_known o d) (unless_known o q (n (known_or o y)))
either_case None y d n q h = inr (q, n y, refl, refl)
either_case (Some x) y d n q h = h x

pub decided_or_found : (I A R : Type 0) → DecidedOrFound I A R
decided_or_found I A R known (ends r) = inl (r, refl, refl)
decided_or_found I A R known (asks_items g k) =
    either_case (known.items g) [] (λ xs. decided known (k xs)) (λ xs. found known (k xs)) (expand g) (λ xs. decided_or_found I A R known (k xs))
decided_or_found I A R known (asks_verdict a k) =
    either_case (known.verdict a) false (λ b. decided known (k b)) (λ b. found known (k b)) (judge a) (λ b. decided_or_found I A R known (k b))

same_head : {X : Type 0} {x y : X} {xs ys : List X} → x ∷ xs ≡ y ∷ ys → y ≡ x
same_head e = cc

no_head : {X : Type 0} {y : X} {ys : List X} → [] ≡ y ∷ ys → ⊥
no_head e = cc

asked_case : {X A : Type 0} (o : Option X) (y t : X) (n a : X → List (Question A)) (p q : Question A) (qs : List (Question A)) →
    ((x : X) → o ≡ Some x → t ≡ x) → ((x : X) → n x ≡ q ∷ qs → IsOneOf q (a x)) →
    unless_known o p (n (known_or o y)) ≡ q ∷ qs → IsOneOf q (p ∷ a t)
asked_case None y t n a p q qs same h e = inl (same_head e)
asked_case (Some x) y t n a p q qs same h e = inr (subst (λ z. IsOneOf q (a z)) (sym (same x refl)) (h x e))

pub first_is_asked : (I A R : Type 0) → FirstIsAsked I A R
first_is_asked I A R known (ends r) q qs s x e = absurd (no_head e)
first_is_asked I A R known (asks_items g k) q qs s x e =
    asked_case (known.items g) [] (s.items g) (λ xs. found known (k xs)) (λ xs. asked s (k xs)) (expand g) q qs (x.items g)
    (λ xs f. first_is_asked I A R known (k xs) q qs s x f) e
first_is_asked I A R known (asks_verdict a k) q qs s x e =
    asked_case (known.verdict a) false (s.verdict a) (λ b. found known (k b)) (λ b. asked s (k b)) (judge a) q qs (x.verdict a)
    (λ b f. first_is_asked I A R known (k b) q qs s x f) e
