-- Where elements of lists come from.
use Rattle.std.proofs.Common.{ℕ, ◌≡◌, ◌⊎◌, inl, inr, List, [], ◌∷◌, map, flat_map, refl, Option, Some, None}
use Rattle.std.proofs.Common.{Bool, true, false, if◌then◌else◌}
use Rattle.spec_core.specs.Lists.{IsOneOf}
use Rattle.spec_core.proofs.Members.{one_parts}
use Rattle.decision_trees.specs.Gaps.{OrGap, element, gap, in_its_place}
use Rattle.symbolic_composites.specs.Composites.{from_option}

pub from_some : {A B : Type 0} (o : Option A) (f : A → List B) (y : B) → IsOneOf y (from_option o f) → (a : A) × IsOneOf y (f a)
from_some None f y h = absurd h
from_some (Some a) f y h = (a, h)

pub from_test : {A : Type 0} (b : Bool) (xs : List A) (x : A) → IsOneOf x (if b then xs else []) → IsOneOf x xs
from_test true xs x h = h
from_test false xs x h = absurd h

pub only_one : {A : Type 0} (x y : A) → IsOneOf x (y ∷ []) → x ≡ y
only_one x y (inl e) = e
only_one x y (inr h) = absurd h

-- of lists with gaps

pub same_element : {A : Type 0} (x y : A) → element x ≡ element y → x ≡ y
same_element x y e = cc

pub no_gap : {A : Type 0} {P : Type 0} (x : A) (n : ℕ) → element x ≡ gap n → P
no_gap x n e = let no : ⊥ = cc in absurd no

pub from_elements : {A : Type 0} (x : A) (xs : List A) → IsOneOf (element x) (map element xs) → IsOneOf x xs
from_elements x [] h = absurd h
from_elements x (y ∷ xs) (inl e) = inl (same_element x y e)
from_elements x (y ∷ xs) (inr h) = inr (from_elements x xs h)

-- what stands in the places of elements comes from an element
pub from_places : {A B : Type 0} (f : A → List (OrGap B)) (y : B) (l : List (OrGap A)) →
    IsOneOf (element y) (flat_map (in_its_place f) l) → (x : A) × IsOneOf (element x) l × IsOneOf (element y) (f x)
from_places f y [] h = absurd h
from_places {A} f y (element x ∷ l) h =
    by_side (λ i. from_places f y l i) (one_parts (element y) (f x) (flat_map (in_its_place f) l) h)
  where
    by_side : (IsOneOf (element y) (flat_map (in_its_place f) l) → (z : A) × IsOneOf (element z) l × IsOneOf (element y) (f z)) →
        IsOneOf (element y) (f x) ⊎ IsOneOf (element y) (flat_map (in_its_place f) l) →
        (z : A) × IsOneOf (element z) (element x ∷ l) × IsOneOf (element y) (f z)
    by_side others (inl i) = (x, inl refl, i)
    by_side others (inr i) = let r = others i in (r.0, inr r.1, r.2)
from_places f y (gap n ∷ l) (inl e) = no_gap y n e
from_places f y (gap n ∷ l) (inr h) = let r = from_places f y l h in (r.0, inr r.1, r.2)
