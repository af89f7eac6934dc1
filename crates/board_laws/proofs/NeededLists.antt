-- Lists that are empty, and elements of lists.
use Rattle.std.proofs.Common.{◌≡◌, inl, inr, List, [], ◌∷◌, map, refl}
use Rattle.spec_core.specs.Lists.{Each, IsOneOf}
use Rattle.spec_core.proofs.Lists.{each_implied}

pub map_empty : {A B : Type 0} (f : A → B) (xs : List A) → map f xs ≡ [] → xs ≡ []
map_empty f [] e = refl
map_empty f (x ∷ xs) e = let no : ⊥ = cc in absurd no

pub each_listed : {A : Type 0} (xs : List A) → Each (λ x. IsOneOf x xs) xs
each_listed [] = tt
each_listed (x ∷ xs) = (inl refl, each_implied (λ y. IsOneOf y xs) (λ y. IsOneOf y (x ∷ xs)) xs (λ y i. inr i) (each_listed xs))

pub each_map : {A B : Type 0} (P : B → Type 0) (f : A → B) (xs : List A) → ((x : A) → IsOneOf x xs → P (f x)) → Each P (map f xs)
each_map P f [] h = tt
each_map P f (x ∷ xs) h = (h x (inl refl), each_map P f xs (λ y i. h y (inr i)))
