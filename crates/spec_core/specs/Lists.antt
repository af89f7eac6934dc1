-- What holds of the elements of a list.
use Rattle.std.specs.Prelude.{◌≡◌, ◌⊎◌, List, [], ◌∷◌}
use Rattle.std.specs.List.{AllByRecursion}

-- P holds of each element
abbrev pub Each : {A : Type 0} → (A → Type 0) → List A → Type 0
Each P xs = AllByRecursion P xs

-- P holds of some element
abbrev pub OneOf : {A : Type 0} → (A → Type 0) → List A → Type 0
OneOf P [] = ⊥
OneOf P (x ∷ xs) = P x ⊎ OneOf P xs

-- an element of the list
abbrev pub IsOneOf : {A : Type 0} → A → List A → Type 0
IsOneOf x xs = OneOf (λ y. x ≡ y) xs

-- no two of the list are related
abbrev pub NoTwo : {A : Type 0} → (A → A → Type 0) → List A → Type 0
NoTwo R [] = Unit {0}
NoTwo R (x ∷ xs) = Each (λ y. R x y → ⊥) xs × NoTwo R xs
