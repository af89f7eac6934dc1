-- What is judged is judged in one way only.
use Rattle.std.proofs.Common.{Option, Some, ℕ, ◌≡◌, ◌⊎◌, inl, inr, List, [], ◌∷◌, refl, ap, sym, subst, ◌∙◌, arith}
use Rattle.lotos_ast.specs.declared.place.Place.{Place}
use Rattle.lotos_ast.specs.declared.refusal.Refusal.{Refusal}
use Rattle.lotos_ast.specs.declared.refusal.RefusalKind.TheVariants.{Ambiguous}
use Rattle.spec_core.specs.declared.items.Sort.{Sort}
use Rattle.spec_core.specs.Terms.{TermTree, preorder}
use Rattle.spec_core.specs.Windows.{IsLess, IsBefore}
use Rattle.sort_overloads.specs.Expressions.{Expression}
use Rattle.sort_overloads.specs.Judged.{IsJudged, read, unread, unknown}
use Rattle.sort_overloads.specs.Listed.{Typed}
use Rattle.sort_overloads.specs.Overloads.{IsOnlyReading, AreFirstReadings}
use Rattle.sort_overloads.specs.Readings.{Context}
use Rattle.sort_overloads.specs.Refused.{text_in, IsOverloadRefusal, no_reading, ambiguous}

less_onward : (xs ys zs : List ℕ) → IsLess xs ys → IsLess ys zs → IsLess xs zs
less_onward [] [] zs h k = absurd h
less_onward [] (y ∷ ys) zs h k = absurd h
less_onward (x ∷ xs) [] zs h k = absurd h
less_onward (x ∷ xs) (y ∷ ys) [] h k = absurd k
less_onward (x ∷ xs) (y ∷ ys) (z ∷ zs) (inl h) (inl k) = inl (omega arith)
less_onward (x ∷ xs) (y ∷ ys) (z ∷ zs) (inl h) (inr k) = let e = k.0 in inl (omega (arith, e))
less_onward (x ∷ xs) (y ∷ ys) (z ∷ zs) (inr h) (inl k) = let e = h.0 in inl (omega (arith, e))
less_onward (x ∷ xs) (y ∷ ys) (z ∷ zs) (inr h) (inr k) = inr (h.0 ∙ k.0, less_onward xs ys zs h.1 k.1)

before_onward : (xs ys zs : List ℕ) → IsBefore xs ys → IsBefore ys zs → IsBefore xs zs
before_onward xs ys zs (inl h) (inl k) = inl (omega arith)
before_onward xs ys zs (inl h) (inr k) = let e = k.0 in inl (omega (arith, e))
before_onward xs ys zs (inr h) (inl k) = let e = h.0 in inl (omega (arith, e))
before_onward xs ys zs (inr h) (inr k) = inr (h.0 ∙ k.0, less_onward xs ys zs h.1 k.1)

not_less : (xs : List ℕ) → IsLess xs xs → ⊥
not_less [] h = h
not_less (x ∷ xs) (inl h) = absurd (omega arith)
not_less (x ∷ xs) (inr h) = not_less xs h.1

not_before : (xs : List ℕ) → IsBefore xs xs → ⊥
not_before xs (inl h) = absurd (omega arith)
not_before xs (inr h) = not_less xs h.1

not_both : (xs ys : List ℕ) → IsBefore xs ys → IsBefore ys xs → ⊥
not_both xs ys h k = not_before xs (before_onward xs ys xs h k)

typed-one : (x y : Typed) → y.term ≡ x.term → y.sort ≡ x.sort → Some x ≡ Some y
typed-one x y h k = ap (λ t. Some (record { term = t; sort = x.sort })) (sym h) ∙ ap (λ s. Some (record { term = y.term; sort = s })) (sym k)

module _ {c : Context} {e : Expression} {w : Option Sort} where
  -- what isn't the first of the readings comes after it
  after : {a b : TermTree} (f : AreFirstReadings c e w a b) (u : TermTree) → (u ≡ a) ⊎ (u ≡ b) ⊎ IsBefore (preorder b) (preorder u) → (u ≡ a) ⊎ IsBefore (preorder a) (preorder u)
  after f u (inl h) = inl h
  after {a} {b} f u (inr (inl h)) = inr (subst (λ z. IsBefore (preorder a) (preorder z)) (sym h) f.in_order)
  after {a} {b} f u (inr (inr h)) = inr (before_onward (preorder a) (preorder b) (preorder u) f.in_order h)

  first-one : {a b p q : TermTree} → AreFirstReadings c e w a b → AreFirstReadings c e w p q → p ≡ a
  first-one {a} {b} {p} {q} f g = by (after f p (f.others p g.first_sort g.first_wanted g.first)) (after g a (g.others a f.first_sort f.first_wanted f.first))
    where
      by : (p ≡ a) ⊎ IsBefore (preorder a) (preorder p) → (a ≡ p) ⊎ IsBefore (preorder p) (preorder a) → p ≡ a
      by (inl h) k = h
      by (inr h) (inl k) = sym k
      by (inr h) (inr k) = absurd (not_both (preorder a) (preorder p) h k)

  second-one : {a b q : TermTree} → AreFirstReadings c e w a b → AreFirstReadings c e w a q → q ≡ b
  second-one {a} {b} {q} f g = by (f.others q g.second_sort g.second_wanted g.second) (g.others b f.second_sort f.second_wanted f.second)
    where
      by : (q ≡ a) ⊎ (q ≡ b) ⊎ IsBefore (preorder b) (preorder q) → (b ≡ a) ⊎ (b ≡ q) ⊎ IsBefore (preorder q) (preorder b) → q ≡ b
      by (inl h) k = absurd (not_before (preorder a) (subst (λ z. IsBefore (preorder a) (preorder z)) h g.in_order))
      by (inr (inl h)) k = h
      by (inr (inr h)) (inl k) = absurd (not_before (preorder a) (subst (λ z. IsBefore (preorder a) (preorder z)) k f.in_order))
      by (inr (inr h)) (inr (inl k)) = sym k
      by (inr (inr h)) (inr (inr k)) = absurd (not_both (preorder b) (preorder q) h k)

  not-both-read : {a b : TermTree} (t : TermTree) (sort : ℕ) → IsOnlyReading c e w t sort → AreFirstReadings c e w a b → ⊥
  not-both-read {a} {b} t sort o f =
      let h = o.only a f.first_sort f.first_wanted f.first in
      let k = o.only b f.second_sort f.second_wanted f.second in
      not_before (preorder a) (subst (λ z. IsBefore (preorder a) (preorder z)) (k.0 ∙ sym h.0) f.in_order)

  overload-one : {p : Place} {r s : Refusal} → IsOverloadRefusal c e w p r → IsOverloadRefusal c e w p s → r ≡ s
  overload-one (no_reading n) (no_reading m) = refl
  overload-one (no_reading n) (ambiguous a b f) = absurd (n a f.first_sort f.first_wanted f.first)
  overload-one (ambiguous a b f) (no_reading n) = absurd (n a f.first_sort f.first_wanted f.first)
  overload-one {p} (ambiguous a b f) (ambiguous u v g) =
      let h : u ≡ a = first-one f g in
      let k : v ≡ b = second-one f (subst (λ z. AreFirstReadings c e w z v) h g) in
      ap (λ z. record { kind = Ambiguous; place = p; names = text_in c z ∷ text_in c b ∷ [] }) (sym h) ∙ ap (λ z. record { kind = Ambiguous; place = p; names = text_in c u ∷ text_in c z ∷ [] }) (sym k)

  -- a reading leaves no refusal
  read-only : {p : Place} {r : Refusal} (x : Typed) → IsOnlyReading c e w x.term x.sort → IsOverloadRefusal c e w p r → ⊥
  read-only x o (no_reading n) = n x.term x.sort o.wanted_sort o.reading
  read-only x o (ambiguous a b f) = not-both-read x.term x.sort o f

  pub judged-one : {p : Place} {f g : Option Typed} {rs ss : List Refusal} → IsJudged c e w p f rs → IsJudged c e w p g ss → (f ≡ g) × (rs ≡ ss)
  judged-one (read x u o) (read y v q) = let h = o.only y.term y.sort q.wanted_sort q.reading in (typed-one x y h.0 h.1, refl)
  judged-one (read x u o) (unread r v q) = absurd (read-only x o q)
  judged-one (read x u o) (unknown r rs h) = absurd (let z : [] ≡ r ∷ rs = sym u ∙ h in cc)
  judged-one (unread r u q) (read x v o) = absurd (read-only x o q)
  judged-one (unread r u q) (unread s v t) = (refl, ap (λ z. z ∷ []) (overload-one q t))
  judged-one (unread r u q) (unknown s ss h) = absurd (let z : [] ≡ s ∷ ss = sym u ∙ h in cc)
  judged-one (unknown r rs h) (read x v o) = absurd (let z : [] ≡ r ∷ rs = sym v ∙ h in cc)
  judged-one (unknown r rs h) (unread s v q) = absurd (let z : [] ≡ r ∷ rs = sym v ∙ h in cc)
  judged-one (unknown r rs h) (unknown s ss k) = (refl, sym h ∙ k)
