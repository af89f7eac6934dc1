-- Lists without an element twice.
use Rattle.std.proofs.Common.{◌≡◌, ◌∙◌, ◌++◌, inl, inr, sym, ap, refl, subst, List, [], ◌∷◌, map, flat_map, filter, Bool, true, false, cond}
use Rattle.spec_core.specs.Lists.{Each, IsOneOf}
use Rattle.spec_core.proofs.Lists.{each-map, each_append, each_filter, each_implied}
use Rattle.spec_core.proofs.Members.{each_from, each_one, from_flat_map, one_map}
use Rattle.tree_laws.specs.Laws.{AllDiffer}

pub one_of_single : {A : Type 0} (x y : A) → IsOneOf x (y ∷ []) → x ≡ y
one_of_single x y (inl e) = e
one_of_single x y (inr o) = absurd o

pub differ_append : {A : Type 0} (xs ys : List A) → AllDiffer xs → AllDiffer ys → ((x : A) → IsOneOf x xs → IsOneOf x ys → ⊥) →
    AllDiffer (xs ++ ys)
differ_append [] ys h k apart = k
differ_append (x ∷ xs) ys h k apart = (
  each_append (λ y. x ≡ y → ⊥) xs ys h.0
      (each_from (λ y. x ≡ y → ⊥) ys (λ y o e. apart x (inl refl) (subst (λ z. IsOneOf z ys) (sym e) o))),
  differ_append xs ys h.1 k (λ y o. apart y (inr o)),
)

-- images by what keeps elements apart
pub differ_map : {A B : Type 0} (f : A → B) (xs : List A) → ((x y : A) → f x ≡ f y → x ≡ y) → AllDiffer xs → AllDiffer (map f xs)
differ_map f [] one h = tt
differ_map f (x ∷ xs) one h = (
  each-map (λ z. f x ≡ z → ⊥) f xs (each_implied (λ y. x ≡ y → ⊥) (λ y. f x ≡ f y → ⊥) xs (λ y n e. n (one x y e)) h.0),
  differ_map f xs one h.1,
)

-- lists of which each shows the element that it was made of
pub differ_flat : {A B : Type 0} (f : A → List B) (xs : List A) → AllDiffer xs → ((x : A) → IsOneOf x xs → AllDiffer (f x)) →
    ((x y : A) (b : B) → IsOneOf x xs → IsOneOf y xs → IsOneOf b (f x) → IsOneOf b (f y) → x ≡ y) → AllDiffer (flat_map f xs)
differ_flat f [] h each one = tt
differ_flat f (x ∷ xs) h each one =
    differ_append (f x) (flat_map f xs) (each x (inl refl))
    (differ_flat f xs h.1 (λ y o. each y (inr o)) (λ y z b o p. one y z b (inr o) (inr p)))
    (λ b o p.
    let k = from_flat_map f xs b p in
    each_one (λ y. x ≡ y → ⊥) xs k.0 h.0 k.1 (one x k.0 b (inl refl) (inr k.1) o k.2))

-- the same where a key is shown
pub differ_keyed : {A B K : Type 0} (key : A → K) (of : B → K) (f : A → List B) (xs : List A) → AllDiffer (map key xs) →
    ((x : A) → IsOneOf x xs → AllDiffer (f x)) → ((x : A) (b : B) → IsOneOf x xs → IsOneOf b (f x) → of b ≡ key x) →
    AllDiffer (flat_map f xs)
differ_keyed key of f [] h each shown = tt
differ_keyed key of f (x ∷ xs) h each shown =
    differ_append (f x) (flat_map f xs) (each x (inl refl))
    (differ_keyed key of f xs h.1 (λ y o. each y (inr o)) (λ y b o. shown y b (inr o)))
    (λ b o p.
    let k = from_flat_map f xs b p in
    each_one (λ y. key x ≡ y → ⊥) (map key xs) (key k.0) h.0 (one_map key k.0 xs k.1)
    (sym (shown x b (inl refl) o) ∙ shown k.0 b (inr k.1) k.2))

pub differ_filter : {A : Type 0} (p : A → Bool) (xs : List A) → AllDiffer xs → AllDiffer (filter p xs)
differ_filter p [] h = tt
differ_filter p (x ∷ xs) h = by_test (p x) (differ_filter p xs h.1)
  where
    by_test : (b : Bool) → AllDiffer (filter p xs) → AllDiffer (cond b (x ∷ filter p xs) (filter p xs))
    by_test true k = (each_filter (λ y. x ≡ y → ⊥) p xs h.0, k)
    by_test false k = k

-- of the images of a list
pub flat_of_map : {A B C : Type 0} (f : B → List C) (g : A → B) (xs : List A) → flat_map f (map g xs) ≡ flat_map (λ x. f (g x)) xs
flat_of_map f g [] = refl
flat_of_map f g (x ∷ xs) = ap (λ z. f (g x) ++ z) (flat_of_map f g xs)
