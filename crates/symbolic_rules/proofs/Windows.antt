-- What a window says of values outside it.
use Rattle.std.proofs.Common.{ℕ, zero, suc, ◌≡◌, ◌⊎◌, List, [], ◌∷◌, refl, sym, subst, inl, inr, arith, Bool, true, false}
use Rattle.std.proofs.Common.{IsTrue, Contains}
use Rattle.std.specs.Bool.{Decides}
use Rattle.std.specs.Str.{bytes_eq}
use Rattle.std.specs.List.{slice_get}
use Rattle.std.proofs.lemmas.Slice.Eq.{bytes_eq-Decides}
use Rattle.std.proofs.lemmas.Option.{none-some}
use Rattle.spec_core.specs.Lists.{Each}
use Rattle.spec_core.specs.Executable.{IsExecutable}
use Rattle.spec_core.specs.Terms.{TermTree, variable, apply, preorder}
use Rattle.spec_core.specs.Theories.{Operation, Theory}
use Rattle.spec_core.specs.Sorts.{OnSome, HasSort, HaveSorts, no_variables, IsDeclaredSort, OperationFits, FitsData}
use Rattle.data_laws.proofs.Whole.{complete_windows_hold_all_values}
use Rattle.rule_model.specs.Fields.{Spells}
use Rattle.symbolic_rules.specs.Windows.{Windows, AreWindows, sort_of_value}
use Rattle.symbolic_rules.specs.MarkedFields.{chosen, IsWithin}
use Rattle.symbolic_rules.proofs.Sorts.{IsSpelled, sort_of_spelled}

first_or_other : (u v : List ℕ) (vs : List (List ℕ)) → Contains (u ∷ vs) v → (u ≡ v) ⊎ Contains vs v
first_or_other u v vs (zero, l, e) = inl e
first_or_other u v vs (suc i, l, e) = inr (i, omega arith, e)

-- a value is one of a list, or it isn't
pub is_one_or_not : (vs : List (List ℕ)) (v : List ℕ) → Contains vs v ⊎ (Contains vs v → ⊥)
is_one_or_not [] v = inr (λ c. let l = c.1 in omega arith)
is_one_or_not (u ∷ vs) v = by_test (bytes_eq u v) (bytes_eq-Decides u v) (is_one_or_not vs v)
  where
    by_test : (b : Bool) → Decides b (u ≡ v) → Contains vs v ⊎ (Contains vs v → ⊥) → Contains (u ∷ vs) v ⊎ (Contains (u ∷ vs) v → ⊥)
    by_test true d r = inl (zero, omega arith, d.0 refl)
    by_test false d (inl c) = let l = c.1 in inl (suc c.0, omega arith, c.2)
    by_test false d (inr out) = inr (λ c. neither (first_or_other u v vs c))
      where
        neither : (u ≡ v) ⊎ Contains vs v → ⊥
        neither (inl e) = let n : false ≡ true = d.1 e in absurd cc
        neither (inr c) = out c

result_is_declared : (theory : Theory) (operations : List Operation) (f sort : ℕ) (P : Operation → Type 0) →
    Each (OperationFits theory) operations → OnSome (slice_get operations f) (λ d. (d.result ≡ sort) × P d) → IsDeclaredSort theory sort
result_is_declared theory [] f sort P e h = absurd h
result_is_declared theory (d ∷ operations) zero sort P e h = subst (IsDeclaredSort theory) h.0 e.0.0
result_is_declared theory (d ∷ operations) (suc f) sort P e h = result_is_declared theory operations f sort P e.1 h

sort_is_declared : (theory : Theory) → FitsData theory → (t : TermTree) (sort : ℕ) → HasSort theory no_variables t sort →
    IsDeclaredSort theory sort
sort_is_declared theory fits (variable x) sort h = absurd (none-some sort h)
sort_is_declared theory fits (apply f ts) sort h =
    result_is_declared theory theory.operations f sort (λ d. HaveSorts theory no_variables ts d.args) fits.operations h

is_false : (b : Bool) → (IsTrue b → ⊥) → b ≡ false
is_false true h = absurd (h refl)
is_false false h = refl

-- where a value of a sort isn't in the window, the window isn't complete
pub not_complete : (theory : Theory) → IsExecutable theory → (n : ℕ) (w : Windows) → AreWindows theory n w →
    (sort : ℕ) (v : List ℕ) → IsSpelled theory sort v → (Contains (w.values sort) v → ⊥) → w.complete sort ≡ false
not_complete theory executable n w windows sort v (t, spells) out =
    let window = windows sort (sort_is_declared theory executable.fits t sort spells.of_sort) in
    let held = complete_windows_hold_all_values theory executable sort n (w.values sort) (w.complete sort) window in
    is_false (w.complete sort) (λ c. out (subst (Contains (w.values sort)) (sym spells.spelled) (held c t spells.is_value spells.of_sort)))

-- a value of a window is within it, by the sort that its list of operations has
pub spelled_within : (theory : Theory) (w : Windows) (v : List ℕ) (n : TermTree) (sort : ℕ) → Spells theory v n sort →
    Contains (w.values sort) v → IsWithin theory w (chosen (preorder n))
spelled_within theory w v n sort h c =
    subst (λ (u : List ℕ). Contains (w.values (sort_of_value theory u)) u) h.spelled
    (subst (λ (s : ℕ). Contains (w.values s) v) (sym (sort_of_spelled theory v n sort h)) c)
