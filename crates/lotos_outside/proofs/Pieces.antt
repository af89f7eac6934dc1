-- What a source has left after bytes of its first piece were taken.
use Rattle.std.proofs.Common.{◌≡◌, ℕ, ◌≤◌, List, [], ◌∷◌, ◌++◌, map, take, drop, length, slice_index_or, slice_set, arith, ap, sym, ◌∙◌}
use Rattle.std.proofs.Common.{append_assoc}
use Rattle.std.proofs.lemmas.List.{take-append-drop}
use Rattle.std.specs.List.{concat}

-- the bytes of the pieces are those taken from the first piece and then those that are left
pub concat-take_first : {A : Type 0} (items : A → List ℕ) (pieces : List A) (first left : A) (count : ℕ) →
    1 ≤ length pieces → items left ≡ drop count (items (slice_index_or pieces 0 first)) →
    concat (map items pieces) ≡ take count (items (slice_index_or pieces 0 first)) ++ concat (map items (slice_set pieces 0 left))
concat-take_first items [] first left count some rest = absurd (omega (arith, some))
concat-take_first items (piece ∷ pieces) first left count some rest =
    ap (λ (l : List ℕ). l ++ concat (map items pieces))
    (sym (take-append-drop count (items piece)) ∙ ap (λ (l : List ℕ). take count (items piece) ++ l) (sym rest))
    ∙ append_assoc (take count (items piece)) (items left) (concat (map items pieces))
