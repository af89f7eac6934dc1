-- How a session begins.
use Rattle.std.proofs.Common.{ℕ, ◌≡◌, ◌∙◌, refl, sym, ap, subst, List, [], map, Option, Some, None, Bool, true, option_map}
use Rattle.std.specs.List.{slice_get}
use Rattle.std.proofs.lemmas.Option.{slice_get-map}
use Rattle.spec_core.specs.declared.window.Window.{Window}
use Rattle.spec_core.specs.Theories.{Theory}
use Rattle.spec_core.specs.Windows.{IsWindow}
use Rattle.sort_windows.specs.Found.{AreBySorts}
use Rattle.symbolic_rules.specs.Tables.{complete_of, values_of, windows_in}
use Rattle.session.specs.Starting.{Content, content_of}

-- what stands at a place of a table, by what the windows hold

abbrev held_values : Option Content → List (List ℕ)
held_values None = []
held_values (Some c) = c.values

abbrev held_complete : Option Content → Bool
held_complete None = true
held_complete (Some c) = c.complete

values_are : (o : Option Window) → values_of o ≡ held_values (option_map content_of o)
values_are None = refl
values_are (Some w) = refl

complete_are : (o : Option Window) → complete_of o ≡ held_complete (option_map content_of o)
complete_are None = refl
complete_are (Some w) = refl

abbrev IsHeld : Theory → ℕ → ℕ → Option Content → Type 0
IsHeld theory sort k None = Unit {0}
IsHeld theory sort k (Some c) = IsWindow theory sort k c.values c.complete

module _ (xs ys : List Window) (same : map content_of xs ≡ map content_of ys) where
  same_content : (sort : ℕ) → option_map content_of (slice_get xs sort) ≡ option_map content_of (slice_get ys sort)
  same_content sort = sym (slice_get-map content_of xs sort) ∙ ap (λ l. slice_get l sort) same ∙ slice_get-map content_of ys sort

  same_values : (sort : ℕ) → values_of (slice_get xs sort) ≡ values_of (slice_get ys sort)
  same_values sort = values_are (slice_get xs sort) ∙ ap held_values (same_content sort) ∙ sym (values_are (slice_get ys sort))

  same_complete : (sort : ℕ) → complete_of (slice_get xs sort) ≡ complete_of (slice_get ys sort)
  same_complete sort =
      complete_are (slice_get xs sort) ∙ ap held_complete (same_content sort) ∙ sym (complete_are (slice_get ys sort))

  -- the windows of a table are told by what it holds
  pub same_windows : windows_in xs ≡ windows_in ys
  same_windows = λ i. record { values = λ sort. same_values sort i; complete = λ sort. same_complete sort i }

  -- a table has the first values of each sort where another that holds the same has
  pub same_rows : (theory : Theory) (k : ℕ) → AreBySorts theory k ys → AreBySorts theory k xs
  same_rows theory k rows sort window is =
      by_content (slice_get ys sort) (rows sort) (ap (option_map content_of) (sym is) ∙ same_content sort)
    where
      by_content : (o : Option Window) →
          ((other : Window) → o ≡ Some other → IsWindow theory sort k other.values.items other.complete) →
          Some (content_of window) ≡ option_map content_of o → IsWindow theory sort k window.values.items window.complete
      by_content None each e = let never : ⊥ = cc in absurd never
      by_content (Some other) each e =
          subst (λ (c : Option Content). IsHeld theory sort k c) (sym e) (each other refl)
