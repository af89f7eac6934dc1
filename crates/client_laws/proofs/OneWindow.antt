-- A session has one set of windows.
use Rattle.std.proofs.Common.{ℕ, zero, suc, ◌≡◌, ◌∙◌, ◌<◌, ◌≤◌, ◌⊎◌, refl, sym, subst, inl, inr, arith, List, [], ◌∷◌, length, Bool, true, false}
use Rattle.std.proofs.Common.{IsTrue, Contains}
use Rattle.std.proofs.lemmas.Bool.{cases_order}
use Rattle.run_settings.specs.declared.settings.Settings.{Settings}
use Rattle.spec_core.specs.Code.{Program}
use Rattle.spec_core.specs.Lists.{Each, IsOneOf}
use Rattle.spec_core.specs.Sorts.{IsDeclaredSort}
use Rattle.spec_core.specs.Theories.{Theory}
use Rattle.spec_core.specs.Windows.{IsBefore, IsMember, IsWindow}
use Rattle.spec_core.proofs.Members.{each_one}
use Rattle.sort_windows.proofs.Order.{before_onward, not_before, same_or_shorter}
use Rattle.symbolic_rules.specs.Windows.{Windows}
use Rattle.board_laws.specs.Next.{AreSessionWindows}

one_there : (vs : List (List ℕ)) (v : List ℕ) → Contains vs v → IsOneOf v vs
one_there [] v c = let l = c.1 in absurd (omega arith)
one_there (u ∷ vs) v (zero, l, e) = inl (sym e)
one_there (u ∷ vs) v (suc i, l, e) = inr (one_there vs v (i, omega arith, e))

-- The members of one list are all among those of the other, or one of them comes behind all of the other, which is full.
record Past (k : ℕ) (xs ys : List (List ℕ)) : Type 0 where
  value : List ℕ
  among : IsOneOf value xs
  full : length ys ≡ k
  behind : Each (λ y. IsBefore y value) ys

module _ (theory : Theory) (sort k : ℕ) where
  within_or_past : (xs ys : List (List ℕ)) → Each (IsMember theory sort) xs →
      ((v : List ℕ) → IsMember theory sort v → Contains ys v ⊎ (length ys ≡ k) × Each (λ y. IsBefore y v) ys) →
      Each (λ x. IsOneOf x ys) xs ⊎ Past k xs ys
  within_or_past [] ys members first = inl tt
  within_or_past (x ∷ xs) ys members first = by_first (first x members.0) (within_or_past xs ys members.1 first)
    where
      by_first : Contains ys x ⊎ (length ys ≡ k) × Each (λ y. IsBefore y x) ys → Each (λ z. IsOneOf z ys) xs ⊎ Past k xs ys →
          Each (λ z. IsOneOf z ys) (x ∷ xs) ⊎ Past k (x ∷ xs) ys
      by_first (inr h) rest = inr (record { value = x; among = inl refl; full = h.0; behind = h.1 })
      by_first (inl c) (inl rest) = inl (one_there ys x c, rest)
      by_first (inl c) (inr p) = inr (record { value = p.value; among = inr p.among; full = p.full; behind = p.behind })

  -- where a member of the first list comes behind all of the second, each of the second is among the first
  all_within : (xs ys : List (List ℕ)) (z : List ℕ) → IsOneOf z xs → Each (IsMember theory sort) ys → Each (λ y. IsBefore y z) ys →
      ((v : List ℕ) → IsMember theory sort v → Contains xs v ⊎ (length xs ≡ k) × Each (λ x. IsBefore x v) xs) →
      Each (λ y. IsOneOf y xs) ys
  all_within xs [] z among members behind first = tt
  all_within xs (y ∷ ys) z among members behind first =
      (by_first (first y members.0), all_within xs ys z among members.1 behind.1 first)
    where
      by_first : Contains xs y ⊎ (length xs ≡ k) × Each (λ x. IsBefore x y) xs → IsOneOf y xs
      by_first (inl c) = one_there xs y c
      by_first (inr h) = absurd (not_before z (before_onward z y z (each_one (λ x. IsBefore x y) xs z h.1 among) behind.0))

  module _ (xs ys : List (List ℕ)) (a b : Bool) (h : IsWindow theory sort k xs a) (j : IsWindow theory sort k ys b) where
    same_values : xs ≡ ys
    same_values =
        by_both (within_or_past xs ys h.members j.first) (within_or_past ys xs j.members h.first)
      where
        shorter : (us vs : List (List ℕ)) → length us ≡ k → length vs ≤ k → length us < length vs → ⊥
        shorter us vs e l m = omega (arith, e, l, m)

        by_past : Past k xs ys → (ys ≡ xs) ⊎ (length ys < length xs) → xs ≡ ys
        by_past p (inl e) = sym e
        by_past p (inr l) = absurd (shorter ys xs p.full h.at_most l)

        by_length : (xs ≡ ys) ⊎ (length xs < length ys) → Each (λ y. IsOneOf y xs) ys ⊎ Past k ys xs → xs ≡ ys
        by_length (inl e) other = e
        by_length (inr l) (inr p) = absurd (shorter xs ys p.full j.at_most l)
        by_length (inr l) (inl within) = by_other (same_or_shorter ys xs j.in_order h.in_order within)
          where
            by_other : (ys ≡ xs) ⊎ (length ys < length xs) → xs ≡ ys
            by_other (inl e) = sym e
            by_other (inr m) = absurd (omega (arith, l, m))

        by_both : Each (λ x. IsOneOf x ys) xs ⊎ Past k xs ys → Each (λ y. IsOneOf y xs) ys ⊎ Past k ys xs → xs ≡ ys
        by_both (inl within) other = by_length (same_or_shorter xs ys h.in_order j.in_order within) other
        by_both (inr p) other =
            by_past p (same_or_shorter ys xs j.in_order h.in_order (all_within xs ys p.value p.among j.members p.behind h.first))

    same_tests : (s t : Bool) → (IsTrue s → IsTrue t) → (IsTrue t → IsTrue s) → s ≡ t
    same_tests true true f g = refl
    same_tests false false f g = refl
    same_tests true false f g = let no : ⊥ = let e : false ≡ true = f refl in cc in absurd no
    same_tests false true f g = let no : ⊥ = let e : false ≡ true = g refl in cc in absurd no

    same_completeness : a ≡ b
    same_completeness =
        same_tests a b
        (λ t. let all = h.all.0 t in j.all.1 ((λ v m. subst (λ vs. Contains vs v) same_values (all.0 v m)), all.1))
        (λ t. let all = j.all.0 t in h.all.1 ((λ v m. subst (λ vs. Contains vs v) (sym same_values) (all.0 v m)), all.1))

module _ (program : Program) (settings : Settings) (w u : Windows) (h : AreSessionWindows program settings w)
    (j : AreSessionWindows program settings u) where
  declared_or_not : (sort : ℕ) → IsDeclaredSort program.theory sort ⊎ (IsDeclaredSort program.theory sort → ⊥)
  declared_or_not sort = by_order (cases_order sort (length program.theory.sorts))
    where
      by_order : (sort ≡ length program.theory.sorts) ⊎ ((sort < length program.theory.sorts) ⊎ (length program.theory.sorts < sort)) →
          IsDeclaredSort program.theory sort ⊎ (IsDeclaredSort program.theory sort → ⊥)
      by_order (inl e) = inr (λ d. omega (arith, e, d))
      by_order (inr (inl l)) = inl l
      by_order (inr (inr l)) = inr (λ d. omega (arith, l, d))

  same_at : (sort : ℕ) → (w.values sort ≡ u.values sort) × (w.complete sort ≡ u.complete sort)
  same_at sort = by_declared (declared_or_not sort)
    where
      by_declared : IsDeclaredSort program.theory sort ⊎ (IsDeclaredSort program.theory sort → ⊥) →
          (w.values sort ≡ u.values sort) × (w.complete sort ≡ u.complete sort)
      by_declared (inl d) = (
        same_values program.theory sort settings.values (w.values sort) (u.values sort) (w.complete sort) (u.complete sort)
            (h.sized sort d) (j.sized sort d),
        same_completeness program.theory sort settings.values (w.values sort) (u.values sort) (w.complete sort) (u.complete sort)
            (h.sized sort d) (j.sized sort d),
      )
      by_declared (inr n) = ((h.others sort n).0 ∙ sym (j.others sort n).0, (h.others sort n).1 ∙ sym (j.others sort n).1)

  pub one_windows : w ≡ u
  one_windows = λ i. record { values = λ sort. (same_at sort).0 i; complete = λ sort. (same_at sort).1 i }
