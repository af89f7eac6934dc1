-- Windows under construction: what they hold, and when they hold all that they should.
use Rattle.std.specs.Prelude.{ℕ, ◌≡◌, ◌⊎◌, ◌≤◌, List, [], ◌∷◌, ◌++◌, length, take, drop, Some}
use Rattle.std.specs.List.{slice_get, slice_index_or, insert}
use Rattle.spec_core.specs.Lists.{Each, IsOneOf}
use Rattle.spec_core.specs.Theories.{Operation, Theory}
use Rattle.spec_core.specs.Constructors.{IsConstructor}
use Rattle.spec_core.specs.Windows.{IsBefore, IsInOrder, IsMember, IsWindow}
use Rattle.spec_core.specs.declared.window.Window.{Window}

-- the value is one of the window; or the window is full, and all of it comes before the value
abbrev pub IsFound : ℕ → List (List ℕ) → List ℕ → Type 0
IsFound limit window v = IsOneOf v window ⊎ (length window ≡ limit) × Each (λ w. IsBefore w v) window

-- each list that continues this one by a value of the window of each of these sorts is found in the window of the sort
abbrev pub IsClosedFrom : ℕ → (ℕ → List (List ℕ)) → ℕ → List ℕ → List ℕ → Type 0
IsClosedFrom limit windows sort [] front = IsFound limit (windows sort) front
IsClosedFrom limit windows sort (a ∷ args) front = Each (λ v. IsClosedFrom limit windows sort args (front ++ v)) (windows a)

-- each constructor over values of the windows is found in the window of its result's sort
abbrev pub IsClosed : Theory → ℕ → (ℕ → List (List ℕ)) → Type 0
IsClosed theory limit windows =
    (f : ℕ) →
    IsConstructor theory f →
    (d : Operation) →
    slice_get theory.operations f ≡ Some d →
    IsClosedFrom limit windows d.result d.args (f ∷ [])

-- each list that continues this one by a value of each of these sorts is a value of the sort
abbrev pub BeginsMembers : Theory → ℕ → List ℕ → List ℕ → Type 0
BeginsMembers theory sort [] front = IsMember theory sort front
BeginsMembers theory sort (a ∷ args) front = (v : List ℕ) → IsMember theory a v → BeginsMembers theory sort args (front ++ v)

-- values of the sorts, in order and no more than the limit of each
pub record AreWindows (theory : Theory) (limit : ℕ) (windows : ℕ → List (List ℕ)) : Type 0 where
  pub members : (s : ℕ) → Each (IsMember theory s) (windows s)
  pub in_order : (s : ℕ) → IsInOrder (windows s)
  pub at_most : (s : ℕ) → length (windows s) ≤ limit

-- what comes before the value stands in front of this place, and what comes after it from there on
pub record IsPlaceOf (v : List ℕ) (window : List (List ℕ)) (place : ℕ) : Type 0 where
  pub within : place ≤ length window
  pub before : Each (λ w. IsBefore w v) (take place window)
  pub after : Each (λ w. IsBefore v w) (drop place window)

-- the window with one more value at its place, cut to the limit
abbrev pub HasGained : ℕ → List ℕ → List (List ℕ) → List (List ℕ) → Type 0
HasGained limit v window now = (place : ℕ) × IsPlaceOf v window place × (now ≡ take limit (insert window place v))

-- the windows, of which that of one sort has gained a value, and no other has changed
abbrev pub HaveGained : ℕ → ℕ → List ℕ → (ℕ → List (List ℕ)) → (ℕ → List (List ℕ)) → Type 0
HaveGained limit sort v windows now = HasGained limit v (windows sort) (now sort) × ((s : ℕ) → (s ≡ sort → ⊥) → now s ≡ windows s)

-- the windows as the program keeps them: that of each sort stands at its number, and beyond the list all are empty
abbrev pub windows_of : List (List (List ℕ)) → ℕ → List (List ℕ)
windows_of all s = slice_index_or all s []

-- each of these windows, by its number, has the first k values of the sort with this number
abbrev pub AreBySorts : Theory → ℕ → List Window → Type 0
AreBySorts theory k all =
    (sort : ℕ) (window : Window) → slice_get all sort ≡ Some window → IsWindow theory sort k window.values.items window.complete
