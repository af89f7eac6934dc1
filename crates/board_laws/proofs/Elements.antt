-- What holds of the elements of a list with gaps.
use Rattle.std.proofs.Common.{◌≡◌, inl, inr, List, [], ◌∷◌, refl, subst}
use Rattle.spec_core.specs.Lists.{IsOneOf}
use Rattle.decision_trees.specs.Gaps.{OrGap, element, gap}

-- R holds of each element
abbrev pub AreElements : {A : Type 0} → (A → Type 0) → List (OrGap A) → Type 0
AreElements R [] = Unit {0}
AreElements R (element a ∷ l) = R a × AreElements R l
AreElements R (gap g ∷ l) = AreElements R l

pub elements_more : {A : Type 0} (R S : A → Type 0) → ((a : A) → R a → S a) → (l : List (OrGap A)) → AreElements R l → AreElements S l
elements_more R S f [] h = tt
elements_more R S f (element a ∷ l) h = (f a h.0, elements_more R S f l h.1)
elements_more R S f (gap g ∷ l) h = elements_more R S f l h

pub elements_listed : {A : Type 0} (l : List (OrGap A)) → AreElements (λ a. IsOneOf (element a) l) l
elements_listed [] = tt
elements_listed (element a ∷ l) =
    (inl refl, elements_more (λ b. IsOneOf (element b) l) (λ b. IsOneOf (element b) (element a ∷ l)) (λ b i. inr i) l (elements_listed l))
elements_listed (gap g ∷ l) =
    elements_more (λ b. IsOneOf (element b) l) (λ b. IsOneOf (element b) (gap g ∷ l)) (λ b i. inr i) l (elements_listed l)

pub element_holds : {A : Type 0} (R : A → Type 0) (l : List (OrGap A)) (x : A) → AreElements R l → IsOneOf (element x) l → R x
element_holds R [] x h i = absurd i
element_holds R (element a ∷ l) x h (inl e) = let same : a ≡ x = cc in subst R same h.0
element_holds R (element a ∷ l) x h (inr i) = element_holds R l x h.1 i
element_holds R (gap g ∷ l) x h (inl e) = let never : ⊥ = cc in absurd never
element_holds R (gap g ∷ l) x h (inr i) = element_holds R l x h i
