-- Lists that loops gather.
use Rattle.std.proofs.Common.{ℕ, ◌≡◌, ◌<◌, ◌≤◌, ◌+◌, List, [], ◌∷◌, ◌++◌, length, take, get_or, arith, ap, sym, ◌∙◌, append_assoc}
use Rattle.std.specs.List.{flat_map, zip}
use Rattle.std.proofs.lemmas.List.{append-nil, take_all, get_or_default}
use Rattle.std.proofs.lemmas.List.Concat.{flat_map-append}
use Rattle.std.proofs.lemmas.Slice.Zip.{get_or-zip, length-zip}
use Rattle.spec_core.proofs.Lists.{take_next}

-- what one more element gives with that of another list
pub zipped_next : {A B C : Type 0} (f : A × B → List C) (h now then : List C) (xs : List A) (ys : List B) (i : ℕ) (x : A) (d : B) → i < length xs → length ys ≡ length xs → x ≡ get_or xs i x → now ≡ h ++ flat_map f (take i (zip xs ys)) → then ≡ now ++ f (x, get_or ys i d) → then ≡ h ++ flat_map f (take (i + 1) (zip xs ys))
zipped_next f h now then xs ys i x d within same at before more =
    let e : (x, get_or ys i d) ≡ get_or (zip xs ys) i (x, get_or ys i d) = ap (λ z. (z, get_or ys i d)) at ∙ ap (λ z. (get_or xs i x, z)) (get_or_default ys i d (get_or ys i d) (omega arith)) ∙ sym (get_or-zip xs ys i (x, get_or ys i d) within (omega arith)) in
    more ∙ ap (λ z. z ++ f (x, get_or ys i d)) before ∙ append_assoc h (flat_map f (take i (zip xs ys))) (f (x, get_or ys i d))
    ∙ ap (λ z. h ++ z) (sym (ap (flat_map f) (take_next (zip xs ys) i (x, get_or ys i d) (omega (arith, length-zip xs ys)) e)
    ∙ flat_map-append f (take i (zip xs ys)) ((x, get_or ys i d) ∷ []) ∙ ap (λ z. flat_map f (take i (zip xs ys)) ++ z) (append-nil (f (x, get_or ys i d)))))

pub zipped_all : {A B : Type 0} (xs : List A) (ys : List B) (i : ℕ) → length xs ≤ i → take i (zip xs ys) ≡ zip xs ys
zipped_all xs ys i past = take_all i (zip xs ys) (omega (arith, length-zip xs ys))
