-- Windows stay windows when they gain a value.
use Rattle.std.proofs.Common.{◌<◌, ℕ, zero, suc, ◌≡◌, ◌≤◌, ◌⊎◌, inl, inr, List, [], ◌∷◌, length, take, drop, get_or, sym, subst, arith}
use Rattle.std.proofs.lemmas.Bool.{cases_order}
use Rattle.std.proofs.lemmas.List.{length-take}
use Rattle.std.specs.List.{insert}
use Rattle.spec_core.specs.Lists.{Each, IsOneOf}
use Rattle.spec_core.specs.Theories.{Theory}
use Rattle.spec_core.specs.Windows.{IsBefore, IsInOrder, IsMember}
use Rattle.std.proofs.Common.{Bool, true, false, ◌||◌, IsTrue, IsFalse, Result, Ok, Err, IfOk, refl}
use Rattle.spec_core.proofs.Lists.{each_implied, each_insert, each_take}
use Rattle.sort_windows.specs.Found.{AreWindows, IsPlaceOf, HaveGained, windows_of}
use Rattle.sort_windows.proofs.Order.{before_onward, before_or_after}

pub in_order_take : (n : ℕ) (xs : List (List ℕ)) → IsInOrder xs → IsInOrder (take n xs)
in_order_take zero [] h = tt
in_order_take (suc n) [] h = tt
in_order_take zero (x ∷ xs) h = tt
in_order_take (suc n) (x ∷ xs) h = (each_take _ n xs h.0, in_order_take n xs h.1)

in_order_insert : (xs : List (List ℕ)) (i : ℕ) (v : List ℕ) →
    IsInOrder xs → Each (λ w. IsBefore w v) (take i xs) → Each (λ w. IsBefore v w) (drop i xs) → IsInOrder (insert xs i v)
in_order_insert [] zero v h b a = (tt, tt)
in_order_insert [] (suc i) v h b a = (tt, tt)
in_order_insert (x ∷ xs) zero v h b a = (a, h)
in_order_insert (x ∷ xs) (suc i) v h b a = (each_insert (λ w. IsBefore x w) xs i v h.0 b.0, in_order_insert xs i v h.1 b.1 a)

-- the place before all of a window in order, where the first of it does not come before the value
pub place_at_front : (v x : List ℕ) (xs : List (List ℕ)) →
    IsInOrder (x ∷ xs) → (IsBefore x v → ⊥) → (IsOneOf v (x ∷ xs) → ⊥) → IsPlaceOf v (x ∷ xs) 0
place_at_front v x xs order not_before new = record {
  within = omega arith;
  before = tt;
  after = go (before_or_after x v);
}
  where
    go : IsBefore x v ⊎ (x ≡ v) ⊎ IsBefore v x → Each (λ w. IsBefore v w) (x ∷ xs)
    go (inl h) = absurd (not_before h)
    go (inr (inl e)) = absurd (new (inl (sym e)))
    go (inr (inr h)) = (h, each_implied _ _ xs (λ w k. before_onward v x w h k) order.0)

pub place_behind : (v x : List ℕ) (xs : List (List ℕ)) (i : ℕ) → IsBefore x v → IsPlaceOf v xs i → IsPlaceOf v (x ∷ xs) (suc i)
place_behind v x xs i h p = record {
  within = let w = p.within in omega (arith, w);
  before = (h, p.before);
  after = p.after;
}

pub place_of_none : (v : List ℕ) → IsPlaceOf v [] 0
place_of_none v = record { within = omega arith; before = tt; after = tt }

-- what holds of the windows' values before holds after one has gained a value, if it holds of the window that gained it
each_window : (P : ℕ → List (List ℕ) → Type 0) (limit sort : ℕ) (v : List ℕ) (windows now : ℕ → List (List ℕ)) →
    HaveGained limit sort v windows now → ((s : ℕ) → P s (windows s)) →
    ((place : ℕ) → IsPlaceOf v (windows sort) place → P sort (take limit (insert (windows sort) place v))) → (s : ℕ) → P s (now s)
each_window P limit sort v windows now g before gained s = go (cases_order s sort)
  where
    here : P sort (now sort)
    here = subst (P sort) (sym g.0.2) (gained g.0.0 g.0.1)

    other : (s ≡ sort → ⊥) → P s (now s)
    other ne = subst (P s) (sym (g.1 s ne)) (before s)

    go : (s ≡ sort) ⊎ ((s < sort) ⊎ (sort < s)) → P s (now s)
    go (inl e) = subst (λ r. P r (now r)) (sym e) here
    go (inr (inl h)) = other (λ e. omega arith)
    go (inr (inr h)) = other (λ e. omega arith)

pub windows_with_more : (theory : Theory) (limit sort : ℕ) (v : List ℕ) (windows now : ℕ → List (List ℕ)) →
    AreWindows theory limit windows → IsMember theory sort v → HaveGained limit sort v windows now →
    AreWindows theory limit now
windows_with_more theory limit sort v windows now h m g = record {
  members =
      each_window (λ s xs. Each (IsMember theory s) xs) limit sort v windows now g h.members (λ place p.
      each_take _ limit _ (each_insert _ (windows sort) place v (h.members sort) m));
  in_order =
      each_window (λ s xs. IsInOrder xs) limit sort v windows now g h.in_order
      (λ place p. in_order_take limit _ (in_order_insert (windows sort) place v (h.in_order sort) p.before p.after));
  at_most =
      each_window (λ s xs. length xs ≤ limit) limit sort v windows now g h.at_most
      (λ place p. let e = length-take limit (insert (windows sort) place v) in omega (arith, e));
}

pub place_at_front_of : (v x : List ℕ) (xs : List (List ℕ)) →
    1 ≤ length xs → x ≡ get_or xs 0 x → IsInOrder xs → (IsBefore x v → ⊥) → (IsOneOf v xs → ⊥) → IsPlaceOf v xs 0
place_at_front_of v x [] within at order not_before new = absurd (omega arith)
place_at_front_of v x (y ∷ xs) within at order not_before new =
    place_at_front v y xs order (subst (λ z. IsBefore z v → ⊥) at not_before) new

-- windows of which one has gained a value, or which are as before
pub filled : {E : Type 0} (theory : Theory) (limit sort : ℕ) (v : List ℕ) (old new : List (List (List ℕ))) (r : Result Bool E) →
    AreWindows theory limit (windows_of old) → IsMember theory sort v →
    IfOk r (λ g. IsTrue g → HaveGained limit sort v (windows_of old) (windows_of new)) → IfOk r (λ g. IsFalse g → new ≡ old) →
    IfOk r (λ g. AreWindows theory limit (windows_of new))
filled theory limit sort v old new (Ok true) h m g s = windows_with_more theory limit sort v (windows_of old) (windows_of new) h m (g refl)
filled theory limit sort v old new (Ok false) h m g s = subst (λ all. AreWindows theory limit (windows_of all)) (sym (s refl)) h
filled theory limit sort v old new (Err e) h m g s = tt

pub both_false : (a b : Bool) → IsFalse (a || b) → IsFalse a × IsFalse b
both_false true b h = cc
both_false false b h = (refl, h)
