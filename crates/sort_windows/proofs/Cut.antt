-- The first values of a closed window with room for one more.
use Rattle.std.proofs.Common.{ℕ, zero, suc, ◌≡◌, ◌<◌, ◌≤◌, ◌+◌, ◌⊎◌, inl, inr, List, [], ◌∷◌, length, take, get_or, refl, sym, subst}
use Rattle.std.proofs.Common.{arith, Bool, IsTrue, ◌↔◌}
use Rattle.std.proofs.lemmas.Bool.{cases_order}
use Rattle.std.proofs.lemmas.List.{length-take, take_all}
use Rattle.std.specs.List.{Contains}
use Rattle.spec_core.specs.Lists.{Each, IsOneOf}
use Rattle.spec_core.specs.OpenSorts.{IsOpen}
use Rattle.spec_core.specs.Theories.{Theory}
use Rattle.spec_core.specs.Windows.{IsBefore, IsInOrder, IsMember, IsWindow}
use Rattle.spec_core.proofs.Members.{each_one}
use Rattle.spec_core.proofs.Lists.{each_take}
use Rattle.sort_windows.specs.Found.{IsFound, IsClosed, AreWindows}
use Rattle.sort_windows.proofs.Order.{not_before}
use Rattle.sort_windows.proofs.Reached.{value_found}
use Rattle.sort_windows.proofs.Gained.{in_order_take}

contained : (xs : List (List ℕ)) (v : List ℕ) → IsOneOf v xs → Contains xs v
contained [] v h = absurd h
contained (x ∷ xs) v (inl e) = (0, omega arith, sym e)
contained (x ∷ xs) v (inr h) = let r = contained xs v h in (suc r.0, (let w = r.1 in omega (arith, w)), r.2)

one_of : (xs : List (List ℕ)) (v : List ℕ) (i : ℕ) → i < length xs → get_or xs i v ≡ v → IsOneOf v xs
one_of [] v i w e = absurd (omega arith)
one_of (x ∷ xs) v zero w e = inl (sym e)
one_of (x ∷ xs) v (suc i) w e = inr (one_of xs v i (omega arith) e)

-- a value of a window is one of the first k, or comes after these
front_or_later : (k : ℕ) (xs : List (List ℕ)) (v : List ℕ) →
    IsInOrder xs → IsOneOf v xs → IsOneOf v (take k xs) ⊎ Each (λ w. IsBefore w v) (take k xs)
front_or_later zero [] v h m = absurd m
front_or_later (suc k) [] v h m = absurd m
front_or_later zero (x ∷ xs) v h m = inr tt
front_or_later (suc k) (x ∷ xs) v h (inl e) = inl (inl e)
front_or_later (suc k) (x ∷ xs) v h (inr m) = go (front_or_later k xs v h.1 m)
  where
    go : IsOneOf v (take k xs) ⊎ Each (λ w. IsBefore w v) (take k xs) → IsOneOf v (x ∷ take k xs) ⊎ Each (λ w. IsBefore w v) (x ∷ take k xs)
    go (inl r) = inl (inr r)
    go (inr r) = inr (each_one (λ w. IsBefore x w) xs v h.0 m, r)

-- where there are more than k, one comes after the first k
one_later : (k : ℕ) (xs : List (List ℕ)) → IsInOrder xs → k < length xs → (v : List ℕ) × IsOneOf v xs × Each (λ w. IsBefore w v) (take k xs)
one_later zero [] h l = absurd (omega arith)
one_later (suc k) [] h l = absurd (omega arith)
one_later zero (x ∷ xs) h l = (x, inl refl, tt)
one_later (suc k) (x ∷ xs) h l =
    let r = one_later k xs h.1 (omega arith) in (r.0, inr r.1, (each_one (λ w. IsBefore x w) xs r.0 h.0 r.1, r.2))

module _ (theory : Theory) (k sort : ℕ) (windows : ℕ → List (List ℕ)) (closed : IsClosed theory (k + 1) windows)
    (sound : AreWindows theory (k + 1) windows) where
  counted : length (take k (windows sort)) ≤ k
  counted = let e = length-take k (windows sort) in omega (arith, e)

  filled : length (windows sort) ≡ k + 1 → length (take k (windows sort)) ≡ k
  filled h = let e = length-take k (windows sort) in omega (arith, e)

  first_values : (v : List ℕ) →
      IsMember theory sort v →
      Contains (take k (windows sort)) v ⊎ (length (take k (windows sort)) ≡ k) × Each (λ w. IsBefore w v) (take k (windows sort))
  first_values v m = go (value_found theory (k + 1) windows closed sound sort v m)
    where
      later : Each (λ w. IsBefore w v) (take k (windows sort)) →
          IsOneOf v (windows sort) →
          (length (windows sort) ≡ k + 1) ⊎ ((length (windows sort) < k + 1) ⊎ (k + 1 < length (windows sort))) →
          Contains (take k (windows sort)) v ⊎ (length (take k (windows sort)) ≡ k) × Each (λ w. IsBefore w v) (take k (windows sort))
      later b o (inl e) = inr (filled e, b)
      later b o (inr (inl l)) = inl (contained _ v (subst (IsOneOf v) (sym (take_all k (windows sort) (omega arith))) o))
      later b o (inr (inr l)) = absurd (let most = sound.at_most sort in omega (arith, most))

      split : IsOneOf v (windows sort) →
          IsOneOf v (take k (windows sort)) ⊎ Each (λ w. IsBefore w v) (take k (windows sort)) →
          Contains (take k (windows sort)) v ⊎ (length (take k (windows sort)) ≡ k) × Each (λ w. IsBefore w v) (take k (windows sort))
      split o (inl f) = inl (contained _ v f)
      split o (inr b) = later b o (cases_order (length (windows sort)) (k + 1))

      go : IsFound (k + 1) (windows sort) v →
          Contains (take k (windows sort)) v ⊎ (length (take k (windows sort)) ≡ k) × Each (λ w. IsBefore w v) (take k (windows sort))
      go (inl o) = split o (front_or_later k (windows sort) v (sound.in_order sort) o)
      go (inr b) = inr (filled b.0, each_take (λ w. IsBefore w v) k (windows sort) b.1)

  complete_holds_all : length (windows sort) ≤ k → (v : List ℕ) → IsMember theory sort v → Contains (take k (windows sort)) v
  complete_holds_all h v m = go (value_found theory (k + 1) windows closed sound sort v m)
    where
      go : IsFound (k + 1) (windows sort) v → Contains (take k (windows sort)) v
      go (inl o) = contained _ v (subst (IsOneOf v) (sym (take_all k (windows sort) h)) o)
      go (inr b) = absurd (let e : length (windows sort) ≡ k + 1 = b.0 in omega (arith, e))

  incomplete_lacks_one : ((v : List ℕ) → IsMember theory sort v → Contains (take k (windows sort)) v) → k < length (windows sort) → ⊥
  incomplete_lacks_one all h =
      let r = one_later k (windows sort) (sound.in_order sort) h in
      let c = all r.0 (each_one (IsMember theory sort) (windows sort) r.0 (sound.members sort) r.1) in
      not_before r.0 (each_one (λ w. IsBefore w r.0) (take k (windows sort)) r.0 r.2 (one_of (take k (windows sort)) r.0 c.0 c.1 c.2))

  told : ((v : List ℕ) → IsMember theory sort v → Contains (take k (windows sort)) v) →
      (length (windows sort) ≡ k) ⊎ ((length (windows sort) < k) ⊎ (k < length (windows sort))) → length (windows sort) ≤ k
  told all (inl e) = omega (arith, e)
  told all (inr (inl l)) = omega (arith, l)
  told all (inr (inr l)) = absurd (incomplete_lacks_one all l)

  the_window : (complete : Bool) → IsTrue complete ↔ ((IsOpen theory sort → ⊥) × (length (windows sort) ≤ k)) →
      IsWindow theory sort k (take k (windows sort)) complete
  the_window complete decides = record {
    members = each_take (IsMember theory sort) k (windows sort) (sound.members sort);
    in_order = in_order_take k (windows sort) (sound.in_order sort);
    at_most = counted;
    first = first_values;
    all = (
      λ h. let d = decides.0 h in (complete_holds_all d.1, d.0),
      λ all. decides.1 (all.1, told all.0 (cases_order (length (windows sort)) k)),
    );
  }

  pub window_of_closed : (values : List (List ℕ)) (n : ℕ) (complete : Bool) → values ≡ take k (windows sort) →
      n ≡ length (windows sort) → IsTrue complete ↔ ((IsOpen theory sort → ⊥) × (n ≤ k)) → IsWindow theory sort k values complete
  window_of_closed values n complete e f decides =
      subst (λ vs. IsWindow theory sort k vs complete) (sym e)
      (the_window complete (subst (λ m. IsTrue complete ↔ ((IsOpen theory sort → ⊥) × (m ≤ k))) f decides))
