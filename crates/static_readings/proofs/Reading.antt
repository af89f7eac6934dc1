-- Lists of which all elements are read, as a loop goes over them.
use Rattle.std.proofs.Common.{ℕ, ◌≡◌, ◌∙◌, ◌<◌, ◌≤◌, ◌+◌, refl, sym, ap, List, [], ◌∷◌, ◌++◌, length, get_or, drop, append_assoc, append-nil, Option, Some, None}
use Rattle.std.proofs.lemmas.List.{drop_all}
use Rattle.lotos_ast.specs.declared.token.Token.{Token}
use Rattle.sort_overloads.proofs.Loops.{dropped-next}
use Rattle.static_readings.specs.Declarations.{gate_numbers}
use Rattle.static_readings.specs.ReadsAll.{before, all_before}
use Rattle.static_readings.specs.Sites.{Site, gate_number}

-- one more element that is read

one_further : {B : Type 0} (xs : List B) (y : B) (rest : Option (List B)) → all_before (Some xs) (before (Some y) rest) ≡ all_before (Some (xs ++ y ∷ [])) rest
one_further xs y None = refl
one_further xs y (Some ys) = ap Some (sym (append_assoc xs (y ∷ []) ys))

pub further : (s : Site) (ts : List Token) (i : ℕ) (t : Token) (gs hs : List ℕ) (g : ℕ) → i < length ts → t ≡ get_or ts i t → gate_number s t ≡ Some g → hs ≡ gs ++ g ∷ []
    → all_before (Some gs) (gate_numbers s (drop i ts)) ≡ gate_numbers s ts → all_before (Some hs) (gate_numbers s (drop (i + 1) ts)) ≡ gate_numbers s ts
further s ts i t gs hs g within at found more h =
    ap (λ z. all_before (Some z) (gate_numbers s (drop (i + 1) ts))) more ∙ sym (one_further gs g (gate_numbers s (drop (i + 1) ts)))
    ∙ ap (λ o. all_before (Some gs) (before o (gate_numbers s (drop (i + 1) ts)))) (sym found)
    ∙ ap (λ us. all_before (Some gs) (gate_numbers s us)) (sym (dropped-next ts i t within at)) ∙ h

none_before : {B : Type 0} (rest : Option (List B)) → before None rest ≡ None
none_before rest = refl

pub further_none : (s : Site) (ts : List Token) (i : ℕ) (t : Token) (gs : List ℕ) → i < length ts → t ≡ get_or ts i t → gate_number s t ≡ None
    → all_before (Some gs) (gate_numbers s (drop i ts)) ≡ gate_numbers s ts → None ≡ gate_numbers s ts
further_none s ts i t gs within at found h =
    ap (λ o. all_before (Some gs) (before o (gate_numbers s (drop (i + 1) ts)))) (sym found)
    ∙ ap (λ us. all_before (Some gs) (gate_numbers s us)) (sym (dropped-next ts i t within at)) ∙ h

pub at_end : (s : Site) (ts : List Token) (i : ℕ) (gs : List ℕ) → length ts ≤ i → all_before (Some gs) (gate_numbers s (drop i ts)) ≡ gate_numbers s ts
    → Some gs ≡ gate_numbers s ts
at_end s ts i gs past h = ap Some (sym (append-nil gs)) ∙ ap (λ us. all_before (Some gs) (gate_numbers s us)) (sym (drop_all i ts past)) ∙ h
