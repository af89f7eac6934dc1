-- Loops over pairs of names.
use Rattle.std.proofs.Common.{ℕ, ◌≡◌, ◌<◌, ◌+◌, List, [], ◌∷◌, ◌++◌, length, map, take, get_or, ap, sym, ◌∙◌}
use Rattle.std.proofs.lemmas.List.{map-append}
use Rattle.spec_core.proofs.Lists.{take_next}

-- one more of two lists that are equal by views
pub views_next : {A B C : Type 0} (f : A → C) (g : B → C) (now then : List A) (y : A) (xs : List B) (i : ℕ) (x : B) → i < length xs → x ≡ get_or xs i x → map f now ≡ map g (take i xs) → then ≡ now ++ y ∷ [] → f y ≡ g x → map f then ≡ map g (take (i + 1) xs)
views_next f g now then y xs i x within at before more same =
    ap (map f) more ∙ map-append f now (y ∷ []) ∙ ap (λ z. z ++ f y ∷ []) before ∙ ap (λ z. map g (take i xs) ++ z ∷ []) same
    ∙ sym (ap (map g) (take_next xs i x within at) ∙ map-append g (take i xs) (x ∷ []))
