-- Loops over lists.
use Rattle.std.proofs.Common.{◌≡◌, ◌∙◌, sym, ap, nat_eq, if◌then◌else◌, List, [], ◌∷◌, ◌++◌, ℕ, ◌+◌, ◌<◌, length, take, get_or, append_assoc}
use Rattle.std.specs.List.{flat_map, filter, list_any, slice_index_or}
use Rattle.std.proofs.lemmas.List.{append-nil}
use Rattle.std.proofs.lemmas.Grind.{flat_map-append}
use Rattle.spec_core.proofs.Lists.{take_next}
use Rattle.spec_core.specs.Theories.{ConditionalEquation}
use Rattle.type_images.specs.Same.{is_in}
use Rattle.type_equation_copies.specs.Contents.{Equations, no_equations, brought_by}

-- what one more element gives, behind others
pub gathered_behind : {A C : Type 0} (f : A → List C) (h now next : List C) (xs : List A) (i : ℕ) (x : A) → i < length xs → x ≡ get_or xs i x → now ≡ h ++ flat_map f (take i xs) → next ≡ now ++ f x → next ≡ h ++ flat_map f (take (i + 1) xs)
gathered_behind f h now next xs i x within at before more =
    more ∙ ap (λ zs. zs ++ f x) before ∙ append_assoc h (flat_map f (take i xs)) (f x)
    ∙ ap (λ z. h ++ z) (sym (ap (flat_map f) (take_next xs i x within at) ∙ flat_map-append f (take i xs) (x ∷ []) ∙ ap (λ z. flat_map f (take i xs) ++ z) (append-nil (f x))))

-- what a type brings in, by another list of the same numbers
pub brought_same : (table : List Equations) (among keys : List ℕ) (content : List ConditionalEquation) (k : ℕ) → list_any (nat_eq k) keys ≡ list_any (nat_eq k) among
    → brought_by table keys content k ≡ brought_by table among content k
brought_same table among keys content k e = ap (λ b. if b then filter (is_in content) (slice_index_or table k no_equations).brought else []) e
