-- What the readings that fit decide.
use Rattle.std.proofs.Common.{Result, Ok, Err, Option, Some, None, ℕ, ◌≡◌, ◌⊎◌, inl, inr, List, [], ◌∷◌, length, refl, ap, sym, subst, ◌∙◌}
use Rattle.std.specs.Bool.{Decides}
use Rattle.std.proofs.lemmas.Bool.Decides.{Decides-eqb}
use Rattle.spec_core.specs.declared.items.Sort.{Sort}
use Rattle.lotos_ast.specs.declared.place.Place.{Place}
use Rattle.lotos_ast.specs.declared.refusal.Refusal.{Refusal}
use Rattle.lotos_ast.specs.declared.refusal.FrontFault.{FrontFault}
use Rattle.lotos_ast.specs.declared.refusal.FrontFault.TheVariants.{Refused, Memory as NoMemory}
use Rattle.lotos_ast.specs.Refusals.{IfRefused}
use Rattle.spec_core.specs.Lists.{Each, IsOneOf}
use Rattle.spec_core.specs.Terms.{TermTree, preorder}
use Rattle.spec_core.specs.Windows.{IsLess, IsBefore}
use Rattle.spec_core.proofs.Members.{each_one}
use Rattle.sort_overloads.specs.Expressions.{Expression}
use Rattle.sort_overloads.specs.Readings.{Context, IsReading}
use Rattle.sort_overloads.specs.Listed.{Typed, two, those, readings}
use Rattle.sort_overloads.specs.Overloads.{IsWanted, HasNoReading, IsOnlyReading, AreFirstReadings}
use Rattle.sort_overloads.specs.Refused.{IsOverloadRefusal, no_reading, ambiguous}
use Rattle.sort_overloads.specs.Tables.{fits as fits_of, IsWantedAs}
use Rattle.sort_overloads.specs.declared.selection.Wanted.{Wanted}
use Rattle.sort_overloads.specs.Picks.{IsOneReading, IsPickRefusal}
use Rattle.sort_overloads.proofs.Members.{typed, those-sound, those-complete}
use Rattle.sort_overloads.proofs.Law.{sound, complete}
use Rattle.sort_overloads.proofs.InOrder.{IsSortedBy, key, sorted, those-sorted, same-size}

wanted : (w : Option Sort) (k : Wanted) → IsWantedAs w k → (s : ℕ) → Decides (fits_of k s) (IsWanted w s)
wanted None k e s = subst (λ z. Decides (fits_of z s) (IsWanted None s)) (sym e) (λ e. tt, λ h. refl)
wanted (Some w) k e s = subst (λ z. Decides (fits_of z s) (IsWanted (Some w) s)) (sym e) (Decides-eqb w.0 s)

two-none : {A : Type 0} (xs : List A) → [] ≡ two xs → xs ≡ []
two-none [] e = refl
two-none (x ∷ []) e = cc
two-none (x ∷ y ∷ xs) e = cc

two-one : {A : Type 0} (x : A) (xs : List A) → x ∷ [] ≡ two xs → xs ≡ x ∷ []
two-one x [] e = cc
two-one x (y ∷ []) e = sym e
two-one x (y ∷ z ∷ xs) e = cc

two-more : {A : Type 0} (x y : A) (xs : List A) → x ∷ y ∷ [] ≡ two xs → (rest : List A) × (xs ≡ x ∷ y ∷ rest)
two-more x y [] e = absurd cc
two-more x y (z ∷ []) e = absurd cc
two-more x y (a ∷ b ∷ xs) e = (xs, ap (λ l. l) (first-two e))
  where
    first-two : x ∷ y ∷ [] ≡ a ∷ b ∷ [] → a ∷ b ∷ xs ≡ x ∷ y ∷ xs
    first-two h = let p : a ≡ x = cc in let q : b ≡ y = cc in ap (λ z. z ∷ b ∷ xs) p ∙ ap (λ z. x ∷ z ∷ xs) q

module _ (c : Context) (e : Expression) (w : Option Sort) (asked : Wanted) (same : IsWantedAs w asked) where
  abbrev fitting : List Typed
  fitting = those (fits_of asked) (readings c e)

  fits : (t : TermTree) (s : ℕ) → IsWanted w s → IsReading c e t s → IsOneOf (typed t s) fitting
  fits t s a h = those-complete (fits_of asked) (readings c e) (typed t s) (complete c e t s h) ((wanted w asked same s).1 a)

  reads : (r : Typed) → IsOneOf r fitting → IsWanted w r.sort × IsReading c e r.term r.sort
  reads r m = let k = those-sound (fits_of asked) (readings c e) r m in ((wanted w asked same r.sort).0 k.1, sound c e r k.0)

  none : fitting ≡ [] → HasNoReading c e w
  none q t s a h = subst (λ z. IsOneOf (typed t s) z) q (fits t s a h)

  only : (x : Typed) (t : TermTree) (sort : ℕ) → fitting ≡ x ∷ [] → t ≡ x.term → sort ≡ x.sort → IsOnlyReading c e w t sort
  only x t sort q equal is =
      let r = reads x (subst (λ z. IsOneOf x z) (sym q) (inl refl)) in
      record {
        wanted_sort = subst (IsWanted w) (sym is) r.0;
        reading = subst (λ z. IsReading c e z sort) (sym equal) (subst (IsReading c e x.term) (sym is) r.1);
        only = λ u s a h. let m = other u s (subst (λ z. IsOneOf (typed u s) z) q (fits u s a h)) in (ap (λ z. z.term) m ∙ sym equal, ap (λ z. z.sort) m ∙ sym is);
      }
    where
      other : (u : TermTree) (s : ℕ) → IsOneOf (typed u s) (x ∷ []) → typed u s ≡ x
      other u s (inl h) = h
      other u s (inr h) = absurd h

  several : (x y : Typed) (rest : List Typed) → fitting ≡ x ∷ y ∷ rest → AreFirstReadings c e w x.term y.term
  several x y rest q =
      let a = reads x (subst (λ z. IsOneOf x z) (sym q) (inl refl)) in
      let b = reads y (subst (λ z. IsOneOf y z) (sym q) (inr (inl refl))) in
      let s : IsSortedBy key (x ∷ y ∷ rest) = subst (IsSortedBy key) q (those-sorted (fits_of asked) (readings c e) (sorted c e)) in
      record {
        first_sort = x.sort;
        first_wanted = a.0;
        first = a.1;
        second_sort = y.sort;
        second_wanted = b.0;
        second = b.1;
        in_order = inr (same-size c e x.term y.term x.sort y.sort a.1 b.1, s.0.0);
        others = λ u r k h. other u r h (same-size c e y.term u y.sort r b.1 h) s.1.0 (subst (λ z. IsOneOf (typed u r) z) q (fits u r k h));
      }
    where
      other : (u : TermTree) (r : ℕ) → IsReading c e u r → length (preorder y.term) ≡ length (preorder u) → Each (λ z. IsLess (key y) (key z)) rest → IsOneOf (typed u r) (x ∷ y ∷ rest) → (u ≡ x.term) ⊎ (u ≡ y.term) ⊎ IsBefore (preorder y.term) (preorder u)
      other u r h n l (inl m) = inl (ap (λ z. z.term) m)
      other u r h n l (inr (inl m)) = inr (inl (ap (λ z. z.term) m))
      other u r h n l (inr (inr m)) = inr (inr (inr (n, each_one (λ z. IsLess (key y) (key z)) rest (typed u r) l m)))

  pub one-reading : (fit : List Typed) (t : TermTree) (sort : ℕ) → two fit ≡ two fitting → IsOneReading fit t sort → IsOnlyReading c e w t sort
  one-reading [] t sort q h = absurd h
  one-reading (x ∷ []) t sort q h = only x t sort (two-one x fitting q) h.0 h.1
  one-reading (x ∷ y ∷ zs) t sort q h = absurd h

  pub refusal : (fit : List Typed) (place : Place) (r : Refusal) → two fit ≡ two fitting → IsPickRefusal c place fit r → IsOverloadRefusal c e w place r
  refusal [] place r q h = subst (IsOverloadRefusal c e w place) (sym h) (no_reading (none (two-none fitting q)))
  refusal (x ∷ []) place r q h = absurd h
  refusal (x ∷ y ∷ zs) place r q h = let m = two-more x y fitting q in subst (IsOverloadRefusal c e w place) (sym h) (ambiguous x.term y.term (several x y m.0 m.1))

pub if_refused_implied : {T : Type 0} {P Q : Refusal → Type 0} (r : Result T FrontFault) → ((x : Refusal) → P x → Q x) → IfRefused r P → IfRefused r Q
if_refused_implied (Ok x) f h = tt
if_refused_implied (Err (Refused x)) f h = f x h
if_refused_implied (Err NoMemory) f h = tt
