-- What is refused of the elements of lists.
use Rattle.std.proofs.Common.{ℕ, ◌≡◌, ◌<◌, ◌+◌, List, [], ◌∷◌, ◌++◌, length, map, take, get_or, ap, sym, ◌∙◌, append_assoc}
use Rattle.std.specs.List.{flat_map}
use Rattle.std.proofs.lemmas.List.{map-append, append-nil}
use Rattle.std.proofs.lemmas.List.Concat.{flat_map-append}
use Rattle.spec_core.proofs.Lists.{take_next}
use Rattle.lotos_ast.specs.declared.refusal.Refusal.{Refusal}
use Rattle.type_names.specs.Refused.{each_after}

each_after_append : {A : Type 0} (f : List A → A → List Refusal) (before xs ys : List A) → each_after f before (xs ++ ys) ≡ each_after f before xs ++ each_after f (before ++ xs) ys
each_after_append f before [] ys = ap (λ z. each_after f z ys) (sym (append-nil before))
each_after_append f before (x ∷ xs) ys =
    ap (λ z. f before x ++ z) (each_after_append f (before ++ x ∷ []) xs ys)
    ∙ sym (append_assoc (f before x) (each_after f (before ++ x ∷ []) xs) (each_after f ((before ++ x ∷ []) ++ xs) ys))
    ∙ ap (λ z. (f before x ++ each_after f (before ++ x ∷ []) xs) ++ each_after f z ys) (append_assoc before (x ∷ []) xs)

-- what is refused of one more element, with those before it
pub each_after_last : {A B : Type 0} (f : List B → B → List Refusal) (g : A → B) (h now then : List Refusal) (xs : List A) (x : A) → now ≡ h ++ each_after f [] (map g xs) → then ≡ now ++ f (map g xs) (g x) → then ≡ h ++ each_after f [] (map g (xs ++ x ∷ []))
each_after_last f g h now then xs x before more =
    more ∙ ap (λ z. z ++ f (map g xs) (g x)) before ∙ append_assoc h (each_after f [] (map g xs)) (f (map g xs) (g x))
    ∙ ap (λ z. h ++ z) (sym (ap (each_after f []) (map-append g xs (x ∷ []))
    ∙ each_after_append f [] (map g xs) (g x ∷ []) ∙ ap (λ z. each_after f [] (map g xs) ++ z) (append-nil (f (map g xs) (g x)))))

pub each_after_next : {A B : Type 0} (f : List B → B → List Refusal) (g : A → B) (h now then : List Refusal) (xs : List A) (i : ℕ) (x : A) → i < length xs → x ≡ get_or xs i x → now ≡ h ++ each_after f [] (map g (take i xs)) → then ≡ now ++ f (map g (take i xs)) (g x) → then ≡ h ++ each_after f [] (map g (take (i + 1) xs))
each_after_next f g h now then xs i x within at before more =
    each_after_last f g h now then (take i xs) x before more ∙ ap (λ zs. h ++ each_after f [] (map g zs)) (sym (take_next xs i x within at))

-- what is refused of one more element
pub refused_next : {A B : Type 0} (f : B → List Refusal) (g : A → B) (h now then : List Refusal) (xs : List A) (i : ℕ) (x : A) → i < length xs → x ≡ get_or xs i x → now ≡ h ++ flat_map f (map g (take i xs)) → then ≡ now ++ f (g x) → then ≡ h ++ flat_map f (map g (take (i + 1) xs))
refused_next f g h now then xs i x within at before more =
    more ∙ ap (λ z. z ++ f (g x)) before ∙ append_assoc h (flat_map f (map g (take i xs))) (f (g x))
    ∙ ap (λ z. h ++ z) (sym (ap (λ zs. flat_map f (map g zs)) (take_next xs i x within at) ∙ ap (flat_map f) (map-append g (take i xs) (x ∷ []))
    ∙ flat_map-append f (map g (take i xs)) (g x ∷ []) ∙ ap (λ z. flat_map f (map g (take i xs)) ++ z) (append-nil (f (g x)))))

-- the same of the elements themselves
pub each_after_more : {A : Type 0} (f : List A → A → List Refusal) (h now then : List Refusal) (xs : List A) (i : ℕ) (x : A) → i < length xs → x ≡ get_or xs i x → now ≡ h ++ each_after f [] (take i xs) → then ≡ now ++ f (take i xs) x → then ≡ h ++ each_after f [] (take (i + 1) xs)
each_after_more f h now then xs i x within at before more =
    more ∙ ap (λ z. z ++ f (take i xs) x) before ∙ append_assoc h (each_after f [] (take i xs)) (f (take i xs) x)
    ∙ ap (λ z. h ++ z) (sym (ap (each_after f []) (take_next xs i x within at)
    ∙ each_after_append f [] (take i xs) (x ∷ []) ∙ ap (λ z. each_after f [] (take i xs) ++ z) (append-nil (f (take i xs) x))))
